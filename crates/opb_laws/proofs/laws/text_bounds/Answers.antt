use Rattle.opb_laws.proofs.Counts.{text_few, rows_few, columns_few}
use Rattle.opb_laws.proofs.Few.{program_few}
use Rattle.opb_laws.proofs.laws.text_bounds.Goals as goal

pub returns : goal.returns
returns c = record { tokens = text_few; rows = rows_few; columns = columns_few; program = program_few }
