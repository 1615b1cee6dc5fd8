use Rattle.std.proofs.Common.{ℕ, List, ◌++◌, map, sym, ap, ◌∙◌}
use Rattle.presolve_model.specs.declared.instance.Instance.{Instance}
use Rattle.presolve_model.specs.declared.instance.Instance.TheVariants as at
use Rattle.presolve_model.specs.declared.instance.Reduction.TheVariants.{DominatedColumn}
use Rattle.problem_model.specs.Problems.{row_entries}
use Rattle.dual_laws.specs.DominatedColumn.{pairs_of}
use Rattle.presolve_model.specs.Enabled.{enabled_on}
use Rattle.instances.proofs.Scanning.{passes_mapped}
use Rattle.instances.proofs.finding.add_dominated.Goals as goal

pub returns-clause-found : goal.returns-clause-found
returns-clause-found c =
    let f = λ (x : ℕ × ℕ). at.Reduction (DominatedColumn c.args.row x.0 x.1) in
    c.in_ok-add_pairs.ensures
    ∙ ap (λ (es : List Instance). c.args.found.now.items ++ es)
    (ap (map f) (c.as_slice.ensures.value ∙ c.in_ok-pairs.ensures.found) ∙ sym (passes_mapped (enabled_on c.args.problem.now) f (pairs_of (row_entries c.args.problem.now c.args.row))))
