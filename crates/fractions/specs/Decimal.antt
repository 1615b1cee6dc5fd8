-- Decimal numbers.
use Rattle.std.specs.Prelude.{◌≡◌, ℕ, ◌<◌, ◌≤◌, ◌^◌, ℤ, pos, unsigned_abs}
use Rattle.fractions.specs.Number.{Number, ◌*ℚ◌, of_ℤ}

-- with so many decimals q is written exactly, and its digits have room: q * 10 ^ places is a whole
-- number from -(2 ^ 127 - 1) to 2 ^ 127 - 1
pub record HasPlaces (q : Number) (places : ℕ) : Type 0 where
  pub digits : ℤ
  pub small : unsigned_abs digits < 2 ^ 127
  pub value : q *ℚ of_ℤ (pos (10 ^ places)) ≡ of_ℤ digits

-- some number of decimals from 0 to 38 does
pub record Decimal (q : Number) : Type 0 where
  pub places : ℕ
  pub few : places ≤ 38
  pub written : HasPlaces q places
