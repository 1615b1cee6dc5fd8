-- What contracts say of a `Frac`.
use Rattle.std.specs.Prelude.{ℕ, ◌*◌, ◌/◌, ◌^◌, ◌<◌, ℤ, pos, ◌+ℤ◌, ◌*ℤ◌, unsigned_abs}
use Rattle.fractions.specs.Gcd.{gcd}
use Rattle.fractions.specs.Number.{Number}
use Rattle.fractions.specs.Lowest.{over_of, under_of}

-- the steps of the sum of a/b and c/d, each in range
pub record StepsFit (a : ℤ) (b : ℕ) (c : ℤ) (d : ℕ) : Type 0 where
  pub left : unsigned_abs (a *ℤ pos (d / gcd b d)) < 2 ^ 127
  pub right : unsigned_abs (c *ℤ pos (b / gcd b d)) < 2 ^ 127
  pub sum : unsigned_abs (a *ℤ pos (d / gcd b d) +ℤ c *ℤ pos (b / gcd b d)) < 2 ^ 127
  pub under : (b / gcd b d) * (d / gcd (unsigned_abs (a *ℤ pos (d / gcd b d) +ℤ c *ℤ pos (b / gcd b d))) (gcd b d)) < 2 ^ 127

abbrev pub SumFits : Number → Number → Type 0
SumFits p q = StepsFit (over_of p) (under_of p) (over_of q) (under_of q)
