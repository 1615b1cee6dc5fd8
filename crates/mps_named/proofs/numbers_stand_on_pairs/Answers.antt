use Rattle.mps_named.proofs.OnceLaws.{entries-first, sides-first}
use Rattle.mps_named.proofs.numbers_stand_on_pairs.Goals as goal

pub returns : goal.returns
returns c = record { entries = entries-first; sides = sides-first }
