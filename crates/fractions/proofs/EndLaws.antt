-- Laws of ends of ranges.
use Rattle.std.proofs.Common.{◌≡◌, IsTrue, Option, Some, None, is_none, unwrap_or, ◌↔◌, [], ◌∷◌, sym, refl, ap, true≢false}
use Rattle.fractions.specs.Ring.{ring, v, ◌:+◌, ◌:-◌}
use Rattle.fractions.specs.Number.{Number, rational, ◌+ℚ◌, ◌-ℚ◌, ◌*ℚ◌, zero_ℚ}
use Rattle.fractions.specs.Order.{◌<ℚ◌, ≤ℚ_trans, ≤ℚ-by}
use Rattle.fractions.specs.Ends.{AtLeast, AtMost, same_end, meet_low, meet_high, less, over}
use Rattle.fractions.specs.Comparisons.{eq_ℚ-is}
use Rattle.fractions.proofs.MinMaxLaws.{≤ℚ-max_ℚ_left, ≤ℚ-max_ℚ_right, max_ℚ-≤, min_ℚ-≤_left, min_ℚ-≤_right, ≤ℚ-min_ℚ}
use Rattle.fractions.specs.Signs.{low_pos, low_pos', high_pos, high_pos', low_neg, low_neg', high_neg, high_neg'}

-- at or above both lower ends
pub meet_low-is : (p q : Option Number) (x : Number) → AtLeast (meet_low p q) x ↔ (AtLeast p x × AtLeast q x)
meet_low-is None q x = (λ h. (tt, h), λ h. h.1)
meet_low-is (Some a) None x = (λ h. (h, tt), λ h. h.0)
meet_low-is (Some a) (Some b) x = (λ h. (≤ℚ_trans (≤ℚ-max_ℚ_left a b) h, ≤ℚ_trans (≤ℚ-max_ℚ_right a b) h), λ h. max_ℚ-≤ h.0 h.1)

-- at or below both upper ends
pub meet_high-is : (p q : Option Number) (x : Number) → AtMost (meet_high p q) x ↔ (AtMost p x × AtMost q x)
meet_high-is None q x = (λ h. (tt, h), λ h. h.1)
meet_high-is (Some a) None x = (λ h. (h, tt), λ h. h.0)
meet_high-is (Some a) (Some b) x = (λ h. (≤ℚ_trans h (min_ℚ-≤_left a b), ≤ℚ_trans h (min_ℚ-≤_right a b)), λ h. ≤ℚ-min_ℚ h.0 h.1)

pub same_end-is : (p q : Option Number) → IsTrue (same_end p q) ↔ (p ≡ q)
same_end-is None None = (λ e. refl, λ e. refl)
same_end-is None (Some b) = (λ e. absurd (true≢false (sym e)), λ e. absurd (true≢false (ap is_none e)))
same_end-is (Some a) None = (λ e. absurd (true≢false (sym e)), λ e. absurd (true≢false (sym (ap is_none e))))
same_end-is (Some a) (Some b) = (λ e. ap Some ((eq_ℚ-is a b).0 e), λ e. (eq_ℚ-is a b).1 (ap (λ o. unwrap_or o a) e))

-- ---- a range moved by a number
pub less-low : (p : Option Number) (c x : Number) → AtLeast (less p c) x ↔ AtLeast p (x +ℚ c)
less-low None c x = (λ h. tt, λ h. tt)
less-low (Some a) c x = (
  λ h. ≤ℚ-by (a -ℚ c) x a (x +ℚ c) (ring rational (a ∷ c ∷ x ∷ []) (v 2 :- (v 0 :- v 1)) ((v 2 :+ v 1) :- v 0) refl) h,
  λ h. ≤ℚ-by a (x +ℚ c) (a -ℚ c) x (ring rational (a ∷ c ∷ x ∷ []) ((v 2 :+ v 1) :- v 0) (v 2 :- (v 0 :- v 1)) refl) h,
)

pub less-high : (p : Option Number) (c x : Number) → AtMost (less p c) x ↔ AtMost p (x +ℚ c)
less-high None c x = (λ h. tt, λ h. tt)
less-high (Some a) c x = (
  λ h. ≤ℚ-by x (a -ℚ c) (x +ℚ c) a (ring rational (a ∷ c ∷ x ∷ []) ((v 0 :- v 1) :- v 2) (v 0 :- (v 2 :+ v 1)) refl) h,
  λ h. ≤ℚ-by (x +ℚ c) a x (a -ℚ c) (ring rational (a ∷ c ∷ x ∷ []) (v 0 :- (v 2 :+ v 1)) ((v 0 :- v 1) :- v 2) refl) h,
)

-- ---- a range of a * x is one of x
pub over-low : (p : Option Number) (a x : Number) → zero_ℚ <ℚ a → AtLeast (over p a) x ↔ AtLeast p (a *ℚ x)
over-low None a x h = (λ k. tt, λ k. tt)
over-low (Some c) a x h = (low_pos' a x c h, low_pos a x c h)

pub over-high : (p : Option Number) (a x : Number) → zero_ℚ <ℚ a → AtMost (over p a) x ↔ AtMost p (a *ℚ x)
over-high None a x h = (λ k. tt, λ k. tt)
over-high (Some c) a x h = (high_pos' a x c h, high_pos a x c h)

-- by a negative number the ends change places
pub over-low_down : (p : Option Number) (a x : Number) → a <ℚ zero_ℚ → AtLeast (over p a) x ↔ AtMost p (a *ℚ x)
over-low_down None a x h = (λ k. tt, λ k. tt)
over-low_down (Some c) a x h = (low_neg' a x c h, low_neg a x c h)

pub over-high_down : (p : Option Number) (a x : Number) → a <ℚ zero_ℚ → AtMost (over p a) x ↔ AtLeast p (a *ℚ x)
over-high_down None a x h = (λ k. tt, λ k. tt)
over-high_down (Some c) a x h = (high_neg' a x c h, high_neg a x c h)
