use Rattle.column_laws.proofs.FreeColumnSingleton.{owes}
use Rattle.column_laws.proofs.free_column_singletons_can_leave_with_their_rows.Goals as goal

pub returns : goal.returns
returns c = owes
