-- What a move leaves between its ends, and the signs of factors.
use Rattle.std.proofs.Common.{◌≡◌, ℕ, ◌<◌, pos, sym, refl, ap, ◌∙◌, subst, [], ◌∷◌, inl, inr, Option, Some, None}
use Rattle.fractions.specs.Ring.{ring, v, num, ◌:+◌, ◌:-◌, ◌:*◌}
use Rattle.fractions.specs.Number.{Number, rational, zero_ℚ, ◌+ℚ◌, ◌-ℚ◌, ◌*ℚ◌, *ℚ_comm}
use Rattle.fractions.specs.Order.{◌≤ℚ◌, ◌<ℚ◌, ≤ℚ_trans, ≤ℚ_antisym, ≤ℚ-by, ≤ℚ_cases, <ℚ-≤ℚ, <ℚ-not}
use Rattle.fractions.specs.Ends.{AtLeast, AtMost, Between}
use Rattle.fractions.specs.Total.{total}
use Rattle.fractions.proofs.Totals.{total-zero, total-≤}
use Rattle.fractions.specs.Signs.{≤ℚ-same, *ℚ_pos, *ℚ_pos_neg, *ℚ_neg}
use Rattle.lp_theory.proofs.Pairs.{below_if_not}

pub more_than : (y d : Number) → zero_ℚ ≤ℚ d → y ≤ℚ (y +ℚ d)
more_than y d h = ≤ℚ-by zero_ℚ d y (y +ℚ d) (ring rational (d ∷ y ∷ []) (v 0 :- num (pos 0)) (v 1 :+ v 0 :- v 1) refl) h

pub less_than : (y d : Number) → d ≤ℚ zero_ℚ → (y +ℚ d) ≤ℚ y
less_than y d h = ≤ℚ-by d zero_ℚ (y +ℚ d) y (ring rational (d ∷ y ∷ []) (num (pos 0) :- v 0) (v 1 :- (v 1 :+ v 0)) refl) h

pub not_up : (b x : Number) → b ≤ℚ x → (b -ℚ x) ≤ℚ zero_ℚ
not_up b x h = ≤ℚ-by b x (b -ℚ x) zero_ℚ (ring rational (b ∷ x ∷ []) (v 1 :- v 0) (num (pos 0) :- (v 0 :- v 1)) refl) h

pub not_down : (b x : Number) → x ≤ℚ b → zero_ℚ ≤ℚ (b -ℚ x)
not_down b x h = ≤ℚ-by x b zero_ℚ (b -ℚ x) (ring rational (b ∷ x ∷ []) (v 0 :- v 1) (v 0 :- v 1 :- num (pos 0)) refl) h

pub at_least_more : (e : Option Number) (x y : Number) → x ≤ℚ y → AtLeast e x → AtLeast e y
at_least_more None x y h k = tt
at_least_more (Some c) x y h k = ≤ℚ_trans k h

pub at_most_less : (e : Option Number) (x y : Number) → y ≤ℚ x → AtMost e x → AtMost e y
at_most_less None x y h k = tt
at_most_less (Some c) x y h k = ≤ℚ_trans h k

-- a number between ends stays there where it moves by d and there is no end on that side
pub shifted : (l u : Option Number) (y d : Number) → (d <ℚ zero_ℚ → l ≡ None) → (zero_ℚ <ℚ d → u ≡ None) → Between l u y → Between l u (y +ℚ d)
shifted l u y d f g b = record {
  low = elim (≤ℚ_cases zero_ℚ d) [
    | inl s ↦ at_least_more l y (y +ℚ d) (more_than y d s) b.low
    | inr s ↦ subst (λ e. AtLeast e (y +ℚ d)) (sym (f s)) tt
  ];
  high = elim (≤ℚ_cases d zero_ℚ) [
    | inl s ↦ at_most_less u y (y +ℚ d) (less_than y d s) b.high
    | inr s ↦ subst (λ e. AtMost e (y +ℚ d)) (sym (g s)) tt
  ];
}

-- ---- the sign of a factor a, by the sign of the product and of the other factor d
pub up_by_up : (a d : Number) → zero_ℚ ≤ℚ d → zero_ℚ <ℚ (a *ℚ d) → zero_ℚ <ℚ a
up_by_up a d h k = below_if_not (λ t. <ℚ-not k (subst (λ c. c ≤ℚ zero_ℚ) (*ℚ_comm d a) (*ℚ_pos_neg h t)))

pub down_by_up : (a d : Number) → zero_ℚ ≤ℚ d → (a *ℚ d) <ℚ zero_ℚ → a <ℚ zero_ℚ
down_by_up a d h k = below_if_not (λ t. <ℚ-not k (*ℚ_pos t h))

pub up_by_down : (a d : Number) → d ≤ℚ zero_ℚ → (a *ℚ d) <ℚ zero_ℚ → zero_ℚ <ℚ a
up_by_down a d h k = below_if_not (λ t. <ℚ-not k (*ℚ_neg t h))

pub down_by_down : (a d : Number) → d ≤ℚ zero_ℚ → zero_ℚ <ℚ (a *ℚ d) → a <ℚ zero_ℚ
down_by_down a d h k = below_if_not (λ t. <ℚ-not k (*ℚ_pos_neg t h))

-- ---- a dual times what a move gives its row
-- a row whose ends let its value v move by d: its dual y, which asks for an end at v, is not of the other sign than d
pub dual_times_move : (l u : Option Number) (v d y : Number) → (zero_ℚ <ℚ y → l ≡ Some v) → (y <ℚ zero_ℚ → u ≡ Some v) → Between l u (v +ℚ d) → zero_ℚ ≤ℚ (y *ℚ d)
dual_times_move l u w d y f g b = elim (≤ℚ_cases y zero_ℚ) [
  | inr p ↦ *ℚ_pos (<ℚ-≤ℚ p) (≤ℚ-by w (w +ℚ d) zero_ℚ d (ring rational (w ∷ d ∷ []) (v 0 :+ v 1 :- v 0) (v 1 :- num (pos 0)) refl) (subst (λ o. AtLeast o (w +ℚ d)) (f p) b.low))
  | inl p ↦ elim (≤ℚ_cases zero_ℚ y) [
    | inr n ↦ *ℚ_neg p (≤ℚ-by (w +ℚ d) w d zero_ℚ (ring rational (w ∷ d ∷ []) (v 0 :- (v 0 :+ v 1)) (num (pos 0) :- v 1) refl) (subst (λ o. AtMost o (w +ℚ d)) (g n) b.high))
    | inl n ↦ ≤ℚ-same (ring rational (d ∷ []) (num (pos 0)) (num (pos 0) :* v 0) refl ∙ ap (λ c. c *ℚ d) (≤ℚ_antisym n p))
  ]
]

-- terms that are not negative have no negative sum
pub sum_not_negative : (n : ℕ) (f : ℕ → Number) → ((k : ℕ) → k < n → zero_ℚ ≤ℚ f k) → zero_ℚ ≤ℚ total n f
sum_not_negative n f h = subst (λ c. c ≤ℚ total n f) (total-zero n (λ k. zero_ℚ) (λ k l. refl)) (total-≤ n (λ k. zero_ℚ) f h)
