use Rattle.std.proofs.Common.{◌≡◌, ℕ, List, ◌++◌, map, sym, ap, subst, OnOk, ◌∙◌}
use Rattle.std.specs.List.{filter}
use Rattle.problem_model.specs.Problems.{row_entries}
use Rattle.presolve_model.specs.declared.instance.Instance.{Instance}
use Rattle.presolve_model.specs.declared.instance.Instance.TheVariants as at
use Rattle.presolve_model.specs.declared.instance.Reduction.TheVariants.{CoefficientTightening}
use Rattle.presolve_model.specs.Enabled.{enabled_on}
use Rattle.instances.proofs.Scanning.{passes_mapped}
use Rattle.instances.proofs.finding.add_shrinking.Goals as goal

pub returns : goal.returns
returns c =
    let f = λ (j : ℕ). at.Reduction (CoefficientTightening c.args.row j) in
    let all : List ℕ = map (λ t. t.id) (row_entries c.args.problem.now c.args.row) in
    let same : map f c.as_slice.result.now ≡ filter (enabled_on c.args.problem.now) (map f all) =
    ap (map f) (c.as_slice.ensures.value ∙ c.in_ok-add_tightened.ensures ∙ ap (λ (js : List ℕ). js ++ filter (λ j. enabled_on c.args.problem.now (f j)) all) c.new-columns.ensures.items)
    ∙ sym (passes_mapped (enabled_on c.args.problem.now) f all) in
    subst (λ (es : List Instance). OnOk c.add_coefficients.result (c.add_coefficients.new.found.items ≡ c.args.found.now.items ++ es)) same c.add_coefficients.ensures
