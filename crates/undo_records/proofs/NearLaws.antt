-- The number between two ends that is nearest to 0 is between them, and no number between them is nearer.
use Rattle.std.proofs.Common.{◌≡◌, Bool, true, false, not, IsTrue, if◌then◌else◌, Option, Some, None, pos, [], ◌∷◌, refl, sym, ◌∙◌}
use Rattle.fractions.specs.Ring.{ring, v, num, inv, ◌:-◌}
use Rattle.fractions.specs.Number.{Number, rational, zero_ℚ, neg_ℚ}
use Rattle.fractions.specs.MinMax.{abs_ℚ}
use Rattle.fractions.specs.Order.{◌≤ℚ◌, ≤ℚ_refl, ≤ℚ_trans, ≤ℚ-by, <ℚ-≤ℚ}
use Rattle.fractions.specs.Compare.{lt_ℚ}
use Rattle.fractions.specs.Ends.{AtMost, Between}
use Rattle.fractions.specs.Comparisons.{le_ℚ-is, lt_ℚ-is, lt_ℚ-not}
use Rattle.fractions.proofs.MinMaxLaws.{abs_ℚ_pos, ≤ℚ-abs_ℚ, neg_ℚ-≤-abs_ℚ, abs_ℚ-≤}
use Rattle.undo_records.specs.Near.{zero_or_below, near}

so : (t : Bool) → false ≡ not t → IsTrue t
so true e = refl
so false e = absurd (let h : false ≡ true = e in cc)

not_below : (a b : Number) → false ≡ lt_ℚ a b → b ≤ℚ a
not_below a b e = (le_ℚ-is b a).0 (so _ (e ∙ lt_ℚ-not a b))

below_high : (hi : Option Number) → AtMost hi (zero_or_below hi)
below_high None = tt
below_high (Some b) = pick (lt_ℚ b zero_ℚ) refl
  where
    pick : (t : Bool) → t ≡ lt_ℚ b zero_ℚ → (if t then b else zero_ℚ) ≤ℚ b
    pick true e = ≤ℚ_refl b
    pick false e = not_below b zero_ℚ e

above_low : (a : Number) (hi : Option Number) → ((b : Number) → hi ≡ Some b → a ≤ℚ b) → a ≤ℚ zero_ℚ → a ≤ℚ zero_or_below hi
above_low a None o l = l
above_low a (Some b) o l = pick (lt_ℚ b zero_ℚ)
  where
    pick : (t : Bool) → a ≤ℚ (if t then b else zero_ℚ)
    pick true = o b refl
    pick false = l

under : (a : Number) (hi : Option Number) → ((b : Number) → hi ≡ Some b → a ≤ℚ b) → AtMost hi a
under a None o = tt
under a (Some b) o = o b refl

pub near_between : (lo hi : Option Number) → ((a b : Number) → lo ≡ Some a → hi ≡ Some b → a ≤ℚ b) → Between lo hi (near lo hi)
near_between None hi o = record { low = tt; high = below_high hi }
near_between (Some a) hi o = pick (lt_ℚ zero_ℚ a) refl
  where
    pick : (t : Bool) → t ≡ lt_ℚ zero_ℚ a → Between (Some a) hi (if t then a else zero_or_below hi)
    pick true e = record { low = ≤ℚ_refl a; high = under a hi (λ b q. o a b refl q) }
    pick false e = record { low = above_low a hi (λ b q. o a b refl q) (not_below zero_ℚ a e); high = below_high hi }

is_below : (a b : Number) → true ≡ lt_ℚ a b → a ≤ℚ b
is_below a b e = <ℚ-≤ℚ ((lt_ℚ-is a b).0 (sym e))

-- 0 is as near as any
zero_nearest : (x : Number) → abs_ℚ zero_ℚ ≤ℚ abs_ℚ x
zero_nearest x = abs_ℚ-≤ (abs_ℚ_pos x) (≤ℚ-by zero_ℚ (abs_ℚ x) (neg_ℚ zero_ℚ) (abs_ℚ x) (ring rational (abs_ℚ x ∷ []) (v 0 :- num (pos 0)) (v 0 :- inv (num (pos 0))) refl) (abs_ℚ_pos x))

-- above 0 the least number is, below 0 the greatest
least_nearest : (a x : Number) → zero_ℚ ≤ℚ a → a ≤ℚ x → abs_ℚ a ≤ℚ abs_ℚ x
least_nearest a x h l = abs_ℚ-≤
    (≤ℚ_trans l (≤ℚ-abs_ℚ x))
    (≤ℚ_trans (≤ℚ-by zero_ℚ a (neg_ℚ a) zero_ℚ (ring rational (a ∷ []) (v 0 :- num (pos 0)) (num (pos 0) :- inv (v 0)) refl) h) (abs_ℚ_pos x))

greatest_nearest : (b x : Number) → b ≤ℚ zero_ℚ → x ≤ℚ b → abs_ℚ b ≤ℚ abs_ℚ x
greatest_nearest b x h l = abs_ℚ-≤
    (≤ℚ_trans h (abs_ℚ_pos x))
    (≤ℚ_trans (≤ℚ-by x b (neg_ℚ b) (neg_ℚ x) (ring rational (b ∷ x ∷ []) (v 0 :- v 1) (inv (v 1) :- inv (v 0)) refl) l) (neg_ℚ-≤-abs_ℚ x))

high_nearest : (hi : Option Number) (x : Number) → AtMost hi x → abs_ℚ (zero_or_below hi) ≤ℚ abs_ℚ x
high_nearest None x l = zero_nearest x
high_nearest (Some b) x l = pick (lt_ℚ b zero_ℚ) refl
  where
    pick : (t : Bool) → t ≡ lt_ℚ b zero_ℚ → abs_ℚ (if t then b else zero_ℚ) ≤ℚ abs_ℚ x
    pick true e = greatest_nearest b x (is_below b zero_ℚ e) l
    pick false e = zero_nearest x

pub near_nearest : (lo hi : Option Number) (x : Number) → Between lo hi x → abs_ℚ (near lo hi) ≤ℚ abs_ℚ x
near_nearest None hi x h = high_nearest hi x h.high
near_nearest (Some a) hi x h = pick (lt_ℚ zero_ℚ a) refl
  where
    pick : (t : Bool) → t ≡ lt_ℚ zero_ℚ a → abs_ℚ (if t then a else zero_or_below hi) ≤ℚ abs_ℚ x
    pick true e = least_nearest a x (is_below zero_ℚ a e) h.low
    pick false e = high_nearest hi x h.high
