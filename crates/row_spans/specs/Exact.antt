-- Sums, differences, products and quotients as they are made: the exact number, or past where one has no room.
use Rattle.std.specs.Prelude.{ℕ, ◌*◌, ◌/◌, ◌^◌, ℤ, pos, ◌+ℤ◌, ◌*ℤ◌, Bool, ◌&&◌, nat_lt, unsigned_abs, Option, Some, None, Result, Ok, Err, if◌then◌else◌}
use Rattle.fractions.specs.Gcd.{gcd}
use Rattle.fractions.specs.Number.{Number, ◌+ℚ◌, ◌-ℚ◌, ◌*ℚ◌, neg_ℚ}
use Rattle.fractions.specs.Division.{◌/ℚ◌}
use Rattle.fractions.specs.Lowest.{over_of, under_of}
use Rattle.fractions.specs.declared.Past.{Past}

-- the number has room
unfoldable pub fits : Number → Bool
fits q = nat_lt (unsigned_abs (over_of q)) (2 ^ 127) && nat_lt (under_of q) (2 ^ 127)

-- the steps of the sum of a/b and c/d have
unfoldable pub steps_fit : ℤ → ℕ → ℤ → ℕ → Bool
steps_fit a b c d =
    nat_lt (unsigned_abs (a *ℤ pos (d / gcd b d))) (2 ^ 127)
    && nat_lt (unsigned_abs (c *ℤ pos (b / gcd b d))) (2 ^ 127)
    && nat_lt (unsigned_abs (a *ℤ pos (d / gcd b d) +ℤ c *ℤ pos (b / gcd b d))) (2 ^ 127)
    && nat_lt ((b / gcd b d) * (d / gcd (unsigned_abs (a *ℤ pos (d / gcd b d) +ℤ c *ℤ pos (b / gcd b d))) (gcd b d))) (2 ^ 127)

unfoldable pub sum_fits : Number → Number → Bool
sum_fits p q = steps_fit (over_of p) (under_of p) (over_of q) (under_of q)

abbrev pub past : Past
past = record {}

-- an answer where it has room
abbrev pub if_room : {T : Type 0} → Bool → T → Result T Past
if_room b t = if b then Ok t else Err past

abbrev pub exact_sum : Number → Number → Result Number Past
exact_sum p q = if_room (sum_fits p q) (p +ℚ q)

-- a difference is the sum with the negative
abbrev pub exact_difference : Number → Number → Result Number Past
exact_difference p q = if_room (sum_fits p (neg_ℚ q)) (p -ℚ q)

abbrev pub exact_product : Number → Number → Result Number Past
exact_product p q = if_room (fits (p *ℚ q)) (p *ℚ q)

abbrev pub exact_quotient : Number → Number → Result Number Past
exact_quotient p q = if_room (fits (p /ℚ q)) (p /ℚ q)

-- a number as an end
abbrev pub as_end : Result Number Past → Result (Option Number) Past
as_end (Ok q) = Ok (Some q)
as_end (Err e) = Err e

-- an end that is made as a product; no end is none
abbrev pub exact_end : Option Number → Result (Option Number) Past
exact_end None = Ok None
exact_end (Some q) = as_end (if_room (fits q) q)
