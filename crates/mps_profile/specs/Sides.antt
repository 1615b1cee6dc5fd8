-- The sides of rows and the bounds of columns. A side or a bound that is infinite is none.
use Rattle.std.specs.Prelude.{◌*◌, ◌/◌, ◌^◌, ℕ, ℤ, pos, ◌+ℤ◌, ◌*ℤ◌, unsigned_abs, nat_lt, Bool, false, not, ◌||◌, ◌&&◌, Option, Some, None, if◌then◌else◌}
use Rattle.fractions.specs.Number.{Number, ◌+ℚ◌, ◌-ℚ◌, neg_ℚ, zero_ℚ}
use Rattle.fractions.specs.Compare.{lt_ℚ}
use Rattle.fractions.specs.Gcd.{gcd}
use Rattle.fractions.specs.Lowest.{over_of, under_of}
use Rattle.fractions.specs.declared.Numbers.{Numbers}
use Rattle.number_texts.specs.Read.{is_taken}
use Rattle.mps_profile.specs.declared.row_kinds.RowKind.{RowKind}
use Rattle.mps_profile.specs.declared.row_kinds.RowKind as kinds
use Rattle.mps_profile.specs.declared.row_kinds.Interval.{Interval}

abbrev pub magnitude : Number → Number
magnitude r = if lt_ℚ r zero_ℚ then neg_ℚ r else r

-- between the right side b and |r| more, or |r| less
abbrev pub upward : Number → Number → Interval
upward b r = record { lower = b; upper = b +ℚ magnitude r }

abbrev pub downward : Number → Number → Interval
downward b r = record { lower = b -ℚ magnitude r; upper = b }

-- the sides that the range r gives a row with the right side b; an N row takes no range
abbrev pub ranged : RowKind → Number → Number → Option Interval
ranged kinds.TheVariants.Free b r = None
ranged kinds.TheVariants.AtMost b r = Some (downward b r)
ranged kinds.TheVariants.AtLeast b r = Some (upward b r)
ranged kinds.TheVariants.Equal b r = Some (if lt_ℚ r zero_ℚ then downward b r else upward b r)

-- the sides of a row with the right side b and the sides of its range; an N row has none
abbrev pub sides_of : RowKind → Number → Option Interval → Option (Option Number × Option Number)
sides_of kinds.TheVariants.Free b range = None
sides_of kind b (Some range) = Some (Some range.lower, Some range.upper)
sides_of kinds.TheVariants.AtMost b None = Some (None, Some b)
sides_of kinds.TheVariants.AtLeast b None = Some (Some b, None)
sides_of kinds.TheVariants.Equal b None = Some (Some b, Some b)

-- the lower bound that no card sets, by the upper bound
abbrev pub default_lower : Option Number → Option Number
default_lower None = Some zero_ℚ
default_lower (Some upper) = if lt_ℚ upper zero_ℚ then None else Some zero_ℚ

abbrev pub is_short : ℤ → Bool
is_short z = nat_lt (unsigned_abs z) (2 ^ 127)

-- whether each step of the sum of a/b and c/d is in range
abbrev pub steps_fit : ℤ → ℕ → ℤ → ℕ → Bool
steps_fit a b c d =
    is_short (a *ℤ pos (d / gcd b d)) && is_short (c *ℤ pos (b / gcd b d))
    && is_short (a *ℤ pos (d / gcd b d) +ℤ c *ℤ pos (b / gcd b d))
    && nat_lt ((b / gcd b d) * (d / gcd (unsigned_abs (a *ℤ pos (d / gcd b d) +ℤ c *ℤ pos (b / gcd b d))) (gcd b d))) (2 ^ 127)

unfoldable pub sum_fits : Number → Number → Bool
sum_fits p q = steps_fit (over_of p) (under_of p) (over_of q) (under_of q)

-- whether the sum has no room, or cannot be written in the form that is asked for
abbrev pub is_past_sum : Numbers → Number → Number → Bool
is_past_sum numbers p q = not (sum_fits p q) || not (is_taken numbers (p +ℚ q))

-- whether the side that the range r makes is past: its upper side, or its lower one
abbrev pub is_past_range : Numbers → RowKind → Number → Number → Bool
is_past_range numbers kinds.TheVariants.Free b r = false
is_past_range numbers kinds.TheVariants.AtMost b r = is_past_sum numbers b (neg_ℚ (magnitude r))
is_past_range numbers kinds.TheVariants.AtLeast b r = is_past_sum numbers b (magnitude r)
is_past_range numbers kinds.TheVariants.Equal b r = is_past_sum numbers b (if lt_ℚ r zero_ℚ then neg_ℚ (magnitude r) else magnitude r)
