use Rattle.mps_written_cards.proofs.Numerals.{readable, limit_read, infinite_read}
use Rattle.mps_written_cards.proofs.written_numbers_are_read_again.Goals as goal

pub returns : goal.returns
returns c = record {
  word = λ numbers q w. (readable numbers q w).word;
  number = λ numbers q w. (readable numbers q w).again;
  bound = limit_read;
  infinite = infinite_read;
}
