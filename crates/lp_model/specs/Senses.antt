-- What is better in each sense, and the signs of multipliers.
use Rattle.std.specs.Prelude.{◌≡◌, Option, Some}
use Rattle.fractions.specs.Number.{Number, zero_ℚ}
use Rattle.fractions.specs.Order.{◌≤ℚ◌, ◌<ℚ◌}
use Rattle.lp_model.specs.declared.program.Sense.{Sense}
use Rattle.lp_model.specs.declared.program.Sense.TheVariants.{Min, Max}

-- NoWorse: a is no worse than b
abbrev pub NoWorse : Sense → Number → Number → Type 0
NoWorse Min a b = a ≤ℚ b
NoWorse Max a b = b ≤ℚ a

-- Better: a is better than b
abbrev pub Better : Sense → Number → Number → Type 0
Better Min a b = a <ℚ b
Better Max a b = b <ℚ a

-- A multiplier m of what has the value v and the ends l and u: in the sense Min it is positive only where v is l,
-- and negative only where v is u; in the sense Max the signs are turned.
abbrev pub Sits : Sense → Option Number → Option Number → Number → Number → Type 0
Sits Min l u v m = (zero_ℚ <ℚ m → l ≡ Some v) × (m <ℚ zero_ℚ → u ≡ Some v)
Sits Max l u v m = (m <ℚ zero_ℚ → l ≡ Some v) × (zero_ℚ <ℚ m → u ≡ Some v)
