use Rattle.mps_named.proofs.OnceLaws.{entries-alone, sides-alone, ranges-alone}
use Rattle.mps_named.proofs.names_stand_once.Goals as goal

pub returns : goal.returns
returns c = record { entries = entries-alone; sides = sides-alone; ranges = ranges-alone }
