use Rattle.std.proofs.Common.{◌∙◌}
use Rattle.ray_starts.proofs.Verdicts.{missed_is, row_ascends, row_live}
use Rattle.ray_starts.proofs.starts.at_infeasible_row.Goals as goal

pub weigh_missed_side-requires-clause-entries : goal.weigh_missed_side-requires-clause-entries
weigh_missed_side-requires-clause-entries c = row_ascends c.args.problem.now c.args.row _ _ _ c.is_sparse.ensures c.as_slice.ensures c.in_ok-entries.ensures c.in_ok-ray.ensures.sized.lower_bounds

pub returns-clause-value : goal.returns-clause-value
returns-clause-value c = c.weigh_missed_side.ensures.value ∙ missed_is c.args.problem.now c.args.row _ _ (row_live c.args.problem.now c.args.row c.requires) (c.as_slice.ensures ∙ c.in_ok-entries.ensures) c.is_above-above.ensures
