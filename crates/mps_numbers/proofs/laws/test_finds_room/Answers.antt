use Rattle.mps_numbers.proofs.Sums.{sum_fits-is}
use Rattle.mps_numbers.proofs.laws.test_finds_room.Goals as goal

pub returns : goal.returns
returns c = sum_fits-is
