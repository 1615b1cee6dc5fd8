use Rattle.std.proofs.Common.{◌≡◌, ℕ, List, ◌++◌, map, sym, ap, subst, OnOk, ◌∙◌}
use Rattle.std.specs.List.{filter}
use Rattle.undo_records.specs.declared.side.Side.{Side}
use Rattle.problem_model.specs.Problems.{row_entries}
use Rattle.activity_laws.specs.BoundTightening.{bounds_of}
use Rattle.presolve_model.specs.declared.instance.Instance.{Instance}
use Rattle.presolve_model.specs.declared.instance.Instance.TheVariants as at
use Rattle.presolve_model.specs.declared.instance.Reduction.TheVariants.{BoundTightening}
use Rattle.presolve_model.specs.Enabled.{enabled_on}
use Rattle.presolve_model.specs.Tallies.{open_on}
use Rattle.instances.proofs.Scanning.{passes_mapped, tests_swapped}
use Rattle.instances.proofs.finding.add_open.Goals as goal

pub returns : goal.returns
returns c =
    let f = λ (x : ℕ × Side). at.Reduction (BoundTightening c.args.row x.0 x.1) in
    let open_bound = λ (x : ℕ × Side). open_on c.args.tally.now x.0 x.1 in
    let tight = λ (x : ℕ × Side). enabled_on c.args.problem.now (f x) in
    let all : List (ℕ × Side) = bounds_of (row_entries c.args.problem.now c.args.row) in
    let same : map f (filter open_bound c.as_slice.result.now) ≡ filter (enabled_on c.args.problem.now) (map f (filter open_bound all)) =
    ap (λ (xs : List (ℕ × Side)). map f (filter open_bound xs)) (c.as_slice.ensures.value ∙ c.in_ok-add_tightened.ensures ∙ ap (λ (xs : List (ℕ × Side)). xs ++ filter tight all) c.new-bounds.ensures.items)
    ∙ ap (map f) (tests_swapped open_bound tight all)
    ∙ sym (passes_mapped (enabled_on c.args.problem.now) f (filter open_bound all)) in
    subst (λ (es : List Instance). OnOk c.add_bounds.result (c.add_bounds.new.found.items ≡ c.args.found.now.items ++ es)) same c.add_bounds.ensures
