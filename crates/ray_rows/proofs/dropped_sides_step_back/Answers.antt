use Rattle.ray_rows.proofs.ParallelRows.{lower_side_back, upper_side_back}
use Rattle.ray_rows.proofs.dropped_sides_step_back.Goals as goal

pub returns-clause-lower : goal.returns-clause-lower
returns-clause-lower c = lower_side_back

pub returns-clause-upper : goal.returns-clause-upper
returns-clause-upper c = upper_side_back
