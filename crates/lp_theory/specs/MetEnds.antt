-- Ends that meet those of a deleted row over a factor.
use Rattle.std.specs.Prelude.{Bool, not, ◌&&◌, ◌||◌, if◌then◌else◌, Option, Some}
use Rattle.fractions.specs.Number.{Number, zero_ℚ}
use Rattle.fractions.specs.Compare.{lt_ℚ}
use Rattle.fractions.specs.Ends.{over, same_end}

-- the sides L and U over the factor a; for a below 0 the ends change over
abbrev pub lower_over : Number → Option Number → Option Number → Option Number
lower_over a L U = if lt_ℚ zero_ℚ a then over L a else over U a

abbrev pub upper_over : Number → Option Number → Option Number → Option Number
upper_over a L U = if lt_ℚ zero_ℚ a then over U a else over L a

-- the end at which the value x holds its multiplier m came from the row: m > 0 and x isn't the old l, or m < 0 and x isn't the old u
abbrev pub is_from_row : Option Number → Option Number → Number → Number → Bool
is_from_row l u x m = (lt_ℚ zero_ℚ m && not (same_end l (Some x))) || (lt_ℚ m zero_ℚ && not (same_end u (Some x)))
