use Rattle.mps_written_cards.proofs.RowCards.{names_said, rows_sound}
use Rattle.mps_written_cards.proofs.written_rows_are_named.Goals as goal

pub returns : goal.returns
returns c = record { names = names_said; sound = rows_sound }
