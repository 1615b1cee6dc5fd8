use Rattle.activity_laws.proofs.ForcingRow.{owes}
use Rattle.activity_laws.proofs.forcing_rows_fix_their_columns.Goals as goal

pub returns : goal.returns
returns c = owes
