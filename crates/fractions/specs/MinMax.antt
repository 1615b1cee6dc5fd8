-- The less and the greater of two numbers, and the distance from 0.
use Rattle.std.specs.Prelude.{if◌then◌else◌}
use Rattle.fractions.specs.Number.{Number, neg_ℚ, zero_ℚ}
use Rattle.fractions.specs.Compare.{le_ℚ}

abbrev pub min_ℚ : Number → Number → Number
min_ℚ p q = if le_ℚ p q then p else q

abbrev pub max_ℚ : Number → Number → Number
max_ℚ p q = if le_ℚ p q then q else p

-- q where 0 ≤ q, and -q below 0
abbrev pub abs_ℚ : Number → Number
abs_ℚ q = if le_ℚ zero_ℚ q then q else neg_ℚ q
