-- The end that the sign of a multiplier asks for.
use Rattle.std.specs.Prelude.{◌≡◌, Option, Some}
use Rattle.fractions.specs.Number.{Number, zero_ℚ}
use Rattle.fractions.specs.Order.{◌<ℚ◌}
use Rattle.lp_model.specs.declared.program.Sense.{Sense}
use Rattle.lp_model.specs.declared.program.Sense.TheVariants.{Min, Max}
use Rattle.lp_check.specs.declared.pair_verdicts.End.{End}
use Rattle.lp_check.specs.declared.pair_verdicts.End.TheVariants.{Lower, Upper}

-- the sign asks for the lower end
abbrev pub AsksLower : Sense → Number → Type 0
AsksLower Min m = zero_ℚ <ℚ m
AsksLower Max m = m <ℚ zero_ℚ

-- it asks for the upper end
abbrev pub AsksUpper : Sense → Number → Type 0
AsksUpper Min m = m <ℚ zero_ℚ
AsksUpper Max m = zero_ℚ <ℚ m

-- the sign of m asks for this one of the ends l and u, and v is not there
abbrev pub IsAway : Sense → Option Number → Option Number → Number → Number → End → Type 0
IsAway s l u v m (Lower e) = AsksLower s m × (e ≡ l) × (l ≡ Some v → ⊥)
IsAway s l u v m (Upper e) = AsksUpper s m × (e ≡ u) × (u ≡ Some v → ⊥)
