use Rattle.ray_rows.proofs.Starts.{crossed_column_ray, crossed_row_ray, above_ray, below_ray}
use Rattle.ray_rows.proofs.verdicts_have_rays.Goals as goal

pub returns-clause-column : goal.returns-clause-column
returns-clause-column c = crossed_column_ray

pub returns-clause-row : goal.returns-clause-row
returns-clause-row c = crossed_row_ray

pub returns-clause-above : goal.returns-clause-above
returns-clause-above c = above_ray

pub returns-clause-below : goal.returns-clause-below
returns-clause-below c = below_ray
