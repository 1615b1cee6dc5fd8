-- No number lies between crossed ends, and what is at one of two ends that are not crossed is within the other.
use Rattle.std.proofs.Common.{inl, inr, Option, Some, None}
use Rattle.fractions.specs.Number.{Number}
use Rattle.fractions.specs.Order.{◌≤ℚ◌, ◌<ℚ◌, ≤ℚ_trans, ≤ℚ_cases, <ℚ-not}
use Rattle.fractions.specs.Ends.{AtLeast, AtMost, Between}
use Rattle.lp_theory.specs.Crossed.{AreCrossed}

pub not_crossed : (l u : Option Number) (x : Number) → AreCrossed l u → Between l u x → ⊥
not_crossed None u x c b = absurd c
not_crossed (Some l) None x c b = absurd c
not_crossed (Some l) (Some u) x c b = <ℚ-not c (≤ℚ_trans b.low b.high)

not_less : (l u : Number) → (u <ℚ l → ⊥) → l ≤ℚ u
not_less l u n = elim (≤ℚ_cases l u) [ inl h ↦ h | inr h ↦ absurd (n h) ]

pub at_upper_end : (l : Option Number) (x : Number) → (AreCrossed l (Some x) → ⊥) → AtLeast l x
at_upper_end None x n = tt
at_upper_end (Some l) x n = not_less l x n

pub at_lower_end : (u : Option Number) (x : Number) → (AreCrossed (Some x) u → ⊥) → AtMost u x
at_lower_end None x n = tt
at_lower_end (Some u) x n = not_less x u n
