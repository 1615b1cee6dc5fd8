use Rattle.fractions.proofs.Floors.{floor_of-≤, floor_of_greatest, ≤-ceil_of, ceil_of_least, is_whole-is}
use Rattle.fractions.proofs.number_laws.floors_are_greatest.Goals as goal

pub returns : goal.returns
returns c = record { floor_below = floor_of-≤; floor_greatest = floor_of_greatest; ceil_above = ≤-ceil_of; ceil_least = ceil_of_least; whole = is_whole-is }
