-- Floors, ceilings and whole numbers.
use Rattle.std.specs.Prelude.{◌≡◌, ℕ, ◌/◌, ℤ, pos, negsuc, neg_ℤ, Bool, nat_eq}
use Rattle.fractions.specs.Number.{Number, neg_ℚ, of_ℤ}
use Rattle.fractions.specs.Lowest.{over_of, under_of}

-- the floor of n / d
abbrev pub floor_by : ℤ → ℕ → ℤ
floor_by (pos n) d = pos (n / d)
floor_by (negsuc n) d = negsuc (n / d)

-- the greatest whole number that is at most q
unfoldable pub floor_of : Number → ℤ
floor_of q = floor_by (over_of q) (under_of q)

-- the least whole number that is at least q
unfoldable pub ceil_of : Number → ℤ
ceil_of q = neg_ℤ (floor_of (neg_ℚ q))

-- q is a whole number
pub record IsWhole (q : Number) : Type 0 where
  pub whole : ℤ
  pub same : q ≡ of_ℤ whole

-- whether its denominator is 1
abbrev pub is_whole : Number → Bool
is_whole q = nat_eq (under_of q) 1
