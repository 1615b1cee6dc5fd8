use Rattle.opb_named.proofs.Ordinary.{ordinary_unmarked}
use Rattle.opb_named.proofs.Named.{text_columns_ordinary, text_plain, text_rows_ordinary}
use Rattle.opb_named.proofs.laws.names_are_ordinary.Goals as goal

pub returns : goal.returns
returns c = record { rows = text_rows_ordinary; columns = text_columns_ordinary; plain = text_plain; unmarked = ordinary_unmarked }
