-- Ends that follow from others, and bounds of one term of a sum from ends of the sum and of the rest.
use Rattle.std.proofs.Common.{refl, [], ◌∷◌, Option, Some, None}
use Rattle.fractions.specs.Ring.{v, ◌:+◌, ◌:-◌}
use Rattle.fractions.specs.Number.{Number, zero_ℚ, ◌+ℚ◌, ◌-ℚ◌, ◌*ℚ◌}
use Rattle.fractions.specs.Order.{◌<ℚ◌, ≤ℚ_trans}
use Rattle.fractions.specs.Linear.{linear, fact}
use Rattle.fractions.specs.Ends.{AtLeast, AtMost, LowBelow, HighAbove, minus_ends, over}
use Rattle.fractions.specs.Signs.{low_pos, high_pos, low_neg, high_neg}

pub at_least_from : (p q : Option Number) (x : Number) → LowBelow p q → AtLeast q x → AtLeast p x
at_least_from None q x b h = tt
at_least_from (Some a) None x b h = absurd b
at_least_from (Some a) (Some c) x b h = ≤ℚ_trans b h

pub at_most_from : (p q : Option Number) (x : Number) → HighAbove p q → AtMost q x → AtMost p x
at_most_from None q x b h = tt
at_most_from (Some a) None x b h = absurd b
at_most_from (Some a) (Some c) x b h = ≤ℚ_trans h b

-- a x + r is at least s or at most s, and the rest r is at most h or at least h
pub low-pos : (a x r : Number) (s h : Option Number) → zero_ℚ <ℚ a → AtLeast s (a *ℚ x +ℚ r) → AtMost h r → AtLeast (over (minus_ends s h) a) x
low-pos a x r None h p k m = tt
low-pos a x r (Some s) None p k m = tt
low-pos a x r (Some s) (Some h) p k m = low_pos a x (s -ℚ h) p (linear (s ∷ h ∷ (a *ℚ x) ∷ r ∷ []) (fact 1 (v 0) (v 2 :+ v 3) ∷ fact 1 (v 3) (v 1) ∷ []) 0 (v 0 :- v 1) (v 2) (k, (m, tt)) refl)

pub high-pos : (a x r : Number) (s h : Option Number) → zero_ℚ <ℚ a → AtMost s (a *ℚ x +ℚ r) → AtLeast h r → AtMost (over (minus_ends s h) a) x
high-pos a x r None h p k m = tt
high-pos a x r (Some s) None p k m = tt
high-pos a x r (Some s) (Some h) p k m = high_pos a x (s -ℚ h) p (linear (s ∷ h ∷ (a *ℚ x) ∷ r ∷ []) (fact 1 (v 2 :+ v 3) (v 0) ∷ fact 1 (v 1) (v 3) ∷ []) 0 (v 2) (v 0 :- v 1) (k, (m, tt)) refl)

pub low-neg : (a x r : Number) (s h : Option Number) → a <ℚ zero_ℚ → AtMost s (a *ℚ x +ℚ r) → AtLeast h r → AtLeast (over (minus_ends s h) a) x
low-neg a x r None h p k m = tt
low-neg a x r (Some s) None p k m = tt
low-neg a x r (Some s) (Some h) p k m = low_neg a x (s -ℚ h) p (linear (s ∷ h ∷ (a *ℚ x) ∷ r ∷ []) (fact 1 (v 2 :+ v 3) (v 0) ∷ fact 1 (v 1) (v 3) ∷ []) 0 (v 2) (v 0 :- v 1) (k, (m, tt)) refl)

pub high-neg : (a x r : Number) (s h : Option Number) → a <ℚ zero_ℚ → AtLeast s (a *ℚ x +ℚ r) → AtMost h r → AtMost (over (minus_ends s h) a) x
high-neg a x r None h p k m = tt
high-neg a x r (Some s) None p k m = tt
high-neg a x r (Some s) (Some h) p k m = high_neg a x (s -ℚ h) p (linear (s ∷ h ∷ (a *ℚ x) ∷ r ∷ []) (fact 1 (v 0) (v 2 :+ v 3) ∷ fact 1 (v 3) (v 1) ∷ []) 0 (v 0 :- v 1) (v 2) (k, (m, tt)) refl)
