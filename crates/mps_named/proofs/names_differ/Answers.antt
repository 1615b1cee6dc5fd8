use Rattle.mps_named.proofs.RowAgreement.{rows-numbered}
use Rattle.mps_named.proofs.ColumnAgreement.{columns-numbered}
use Rattle.mps_named.proofs.names_differ.Goals as goal

pub returns : goal.returns
returns c = record { rows = λ dialect cards i h. rows-numbered dialect cards h i; columns = columns-numbered }
