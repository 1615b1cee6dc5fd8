use Rattle.std.proofs.Common.{◌≡◌, ◌⊎◌, inl, inr, ◌++◌, true, List, map, ap, subst, ◌∙◌, OnOk, ℕ}
use Rattle.std.specs.List.{filter}
use Rattle.presolve_model.specs.declared.instance.Instance.{Instance}
use Rattle.presolve_model.specs.declared.instance.Rule.{Rule}
use Rattle.presolve_model.specs.declared.instance.Rule.TheVariants as rule
use Rattle.presolve_model.specs.Enabled.{enabled_on}
use Rattle.presolve_model.specs.Instances.{beside_at, goes_by_groups, instances_from}
use Rattle.presolve_model.specs.Tallies.{open_on}
use Rattle.instances.proofs.Beside.{lines_beside}
use Rattle.instances.proofs.finding.add_enabled.Goals as goal

either : (r : Rule) → (r ≡ rule.ParallelRows) ⊎ (r ≡ rule.ParallelColumns) → goes_by_groups r ≡ true
either r (inl e) = ap goes_by_groups e
either r (inr e) = ap goes_by_groups e

pub returns-in-ParallelRows : goal.returns-in-ParallelRows
returns-in-ParallelRows c =
    let p = c.args.problem.now in
    let by_groups : goes_by_groups c.args.rule ≡ true = either c.args.rule c.in-ParallelRows.is in
    let same : filter (enabled_on p) (map (beside_at c.args.rule c.args.id) c.lines_beside.result.now) ≡ filter (enabled_on p) (instances_from (open_on c.args.tally.now) p c.args.rule c.args.id) =
    ap (λ (ks : List ℕ). filter (enabled_on p) (map (beside_at c.args.rule c.args.id) ks)) c.lines_beside.ensures
    ∙ lines_beside c.args.groups.now p c.is_sparse.ensures (c.requires by_groups) (open_on c.args.tally.now) c.args.rule c.args.id by_groups in
    subst (λ (es : List Instance). OnOk c.add_beside.result (c.add_beside.new.found.items ≡ c.args.found.now.items ++ es)) same c.add_beside.ensures
