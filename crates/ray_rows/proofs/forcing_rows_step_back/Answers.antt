use Rattle.ray_rows.proofs.ForcingRow.{forced_low_back, forced_high_back}
use Rattle.ray_rows.proofs.forcing_rows_step_back.Goals as goal

pub returns-clause-lower : goal.returns-clause-lower
returns-clause-lower c = forced_low_back

pub returns-clause-upper : goal.returns-clause-upper
returns-clause-upper c = forced_high_back
