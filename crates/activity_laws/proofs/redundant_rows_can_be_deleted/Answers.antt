use Rattle.activity_laws.proofs.RedundantRow.{owes}
use Rattle.activity_laws.proofs.redundant_rows_can_be_deleted.Goals as goal

pub returns : goal.returns
returns c = owes
