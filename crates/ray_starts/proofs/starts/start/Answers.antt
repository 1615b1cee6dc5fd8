use Rattle.ray_starts.proofs.Verdicts.{made_rays}
use Rattle.ray_starts.proofs.starts.start.Goals as goal

pub returns-in-CrossedBounds-clause-ray : goal.returns-in-CrossedBounds-clause-ray
returns-in-CrossedBounds-clause-ray c = made_rays c.args.problem.now _ _ _ c.is_sparse.ensures c.requires.enabled c.requires.infeasible c.in-CrossedBounds.is c.at_crossed_column.ensures.value

pub returns-in-CrossedSides-clause-ray : goal.returns-in-CrossedSides-clause-ray
returns-in-CrossedSides-clause-ray c = made_rays c.args.problem.now _ _ _ c.is_sparse.ensures c.requires.enabled c.requires.infeasible c.in-CrossedSides.is c.at_crossed_row.ensures.value

pub returns-in-InfeasibleRow-clause-ray : goal.returns-in-InfeasibleRow-clause-ray
returns-in-InfeasibleRow-clause-ray c = made_rays c.args.problem.now _ _ _ c.is_sparse.ensures c.requires.enabled c.requires.infeasible c.in-InfeasibleRow.is c.at_infeasible_row.ensures.value
