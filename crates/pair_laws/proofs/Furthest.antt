-- The greatest of 0 and the ratios of a list is that of all columns, and so is the least.
use Rattle.std.proofs.Common.{◌≡◌, ◌≢◌, ◌⊎◌, inl, inr, ℕ, suc, ◌<◌, ◌≤◌, List, [], ◌∷◌, pos, lit<, refl, sym, ap, ◌∙◌, subst, arith}
use Rattle.std.proofs.lemmas.Bool.{cases_eq}
use Rattle.fractions.specs.Gcd.{coprime_by}
use Rattle.fractions.specs.Number.{Number, zero_ℚ, of_ℤ, ◌*ℚ◌, *ℚ_comm, zero-*ℚ}
use Rattle.fractions.specs.Lowest.{over_of, under_of, of_lowest}
use Rattle.fractions.specs.Order.{◌≤ℚ◌, ≤ℚ_refl, ≤ℚ_trans, ≤ℚ_antisym}
use Rattle.fractions.specs.Division.{◌/ℚ◌, inv_ℚ, inverse_by}
use Rattle.fractions.proofs.MinMaxLaws.{min_ℚ-≤_left, min_ℚ-≤_right, ≤ℚ-max_ℚ_left, ≤ℚ-max_ℚ_right, min_ℚ_one, max_ℚ_one}
use Rattle.fractions.proofs.Totals.{put-same, put-other}
use Rattle.lp_model.specs.declared.terms.Term.{Term}
use Rattle.lp_model.specs.Vectors.{Vector}
use Rattle.lp_model.specs.Sparse.{Ascends, dense}
use Rattle.lp_rows.specs.ForcingRow.{IsGreatestRatio, IsLeastRatio}
use Rattle.undo_records.specs.declared.side.Side.{Side}
use Rattle.undo_records.specs.declared.side.Side.TheVariants.{Lower, Upper}
use Rattle.undo_pairs.specs.LiftPair.{further, furthest}

-- q isn't past t on that side
abbrev Within : Side → Number → Number → Type 0
Within Lower q t = q ≤ℚ t
Within Upper q t = t ≤ℚ q

within_refl : (side : Side) (q : Number) → Within side q q
within_refl Lower q = ≤ℚ_refl q
within_refl Upper q = ≤ℚ_refl q

within_trans : (side : Side) (p q r : Number) → Within side p q → Within side q r → Within side p r
within_trans Lower p q r f g = ≤ℚ_trans f g
within_trans Upper p q r f g = ≤ℚ_trans g f

left_within : (side : Side) (p q : Number) → Within side p (further side p q)
left_within Lower p q = ≤ℚ-max_ℚ_left p q
left_within Upper p q = min_ℚ-≤_left p q

right_within : (side : Side) (p q : Number) → Within side q (further side p q)
right_within Lower p q = ≤ℚ-max_ℚ_right p q
right_within Upper p q = min_ℚ-≤_right p q

one_of : (side : Side) (p q : Number) → (further side p q ≡ p) ⊎ (further side p q ≡ q)
one_of Lower p q = max_ℚ_one p q
one_of Upper p q = min_ℚ_one p q

-- the start isn't past the furthest
start_within : (side : Side) (t : Number) (ts : List Term) (z : Vector) → Within side t (furthest side t ts z)
start_within side t [] z = within_refl side t
start_within side t (e ∷ es) z =
    within_trans side t (further side t (z e.id /ℚ e.value)) (furthest side (further side t (z e.id /ℚ e.value)) es z)
    (left_within side t (z e.id /ℚ e.value)) (start_within side (further side t (z e.id /ℚ e.value)) es z)

-- where a number is 0 the ratio is
zero_shown : over_of zero_ℚ ≡ pos 0
unfolding of_ℤ
zero_shown = (of_lowest (record { over = pos 0; under = 1; positive = lit< tt }) (coprime_by 0 1 (λ d p q. q))).0

inverse_zero : inv_ℚ zero_ℚ ≡ zero_ℚ
unfolding inv_ℚ
inverse_zero = ap (λ n. inverse_by n (under_of zero_ℚ)) zero_shown

over_zero : (q : Number) → q /ℚ zero_ℚ ≡ zero_ℚ
over_zero q = ap (λ c. q *ℚ c) inverse_zero ∙ *ℚ_comm q zero_ℚ ∙ zero-*ℚ q

-- no ratio is past the furthest
ratio_within : (side : Side) (m n : ℕ) (t : Number) (ts : List Term) (z : Vector) (k : ℕ) → Ascends m n ts → Within side zero_ℚ t → Within side (z k /ℚ dense ts k) (furthest side t ts z)
ratio_within side m n t [] z k a w = subst (λ q. Within side q t) (sym (over_zero (z k))) w
ratio_within side m n t (e ∷ es) z k a w = by (ratio_within side (suc e.id) n (further side t (z e.id /ℚ e.value)) es z k a.3) (cases_eq k e.id)
  where
    by : (Within side zero_ℚ (further side t (z e.id /ℚ e.value)) → Within side (z k /ℚ dense es k) (furthest side (further side t (z e.id /ℚ e.value)) es z)) → (k ≡ e.id) ⊎ (k ≢ e.id) → Within side (z k /ℚ dense (e ∷ es) k) (furthest side (further side t (z e.id /ℚ e.value)) es z)
    by ih (inl h) =
        subst (λ q. Within side q (furthest side (further side t (z e.id /ℚ e.value)) es z)) (sym (ap (λ i. z i /ℚ dense (e ∷ es) i) h ∙ ap (λ c. z e.id /ℚ c) (put-same (dense es) e.id e.value)))
        (within_trans side (z e.id /ℚ e.value) (further side t (z e.id /ℚ e.value)) (furthest side (further side t (z e.id /ℚ e.value)) es z) (right_within side t (z e.id /ℚ e.value)) (start_within side (further side t (z e.id /ℚ e.value)) es z))
    by ih (inr h) =
        subst (λ c. Within side (z k /ℚ c) (furthest side (further side t (z e.id /ℚ e.value)) es z)) (sym (put-other (dense es) e.id e.value k h))
        (ih (within_trans side zero_ℚ t (further side t (z e.id /ℚ e.value)) w (left_within side t (z e.id /ℚ e.value))))

-- the furthest is the start or a ratio from m on
abbrev IsOne : ℕ → ℕ → Vector → Vector → Number → Number → Type 0
IsOne m n z a t r = (r ≡ t) ⊎ ((k : ℕ) × (m ≤ k) × (k < n) × (r ≡ z k /ℚ a k))

furthest_one : (side : Side) (m n : ℕ) (t : Number) (ts : List Term) (z : Vector) → Ascends m n ts → IsOne m n z (dense ts) t (furthest side t ts z)
furthest_one side m n t [] z a = inl refl
furthest_one side m n t (e ∷ es) z a = by (furthest_one side (suc e.id) n (further side t (z e.id /ℚ e.value)) es z a.3)
  where
    own : furthest side (further side t (z e.id /ℚ e.value)) es z ≡ z e.id /ℚ e.value → IsOne m n z (dense (e ∷ es)) t (furthest side (further side t (z e.id /ℚ e.value)) es z)
    own h = inr (e.id, a.0, a.1, h ∙ ap (λ c. z e.id /ℚ c) (sym (put-same (dense es) e.id e.value)))

    first : furthest side (further side t (z e.id /ℚ e.value)) es z ≡ (further side t (z e.id /ℚ e.value)) → ((further side t (z e.id /ℚ e.value)) ≡ t) ⊎ ((further side t (z e.id /ℚ e.value)) ≡ z e.id /ℚ e.value) → IsOne m n z (dense (e ∷ es)) t (furthest side (further side t (z e.id /ℚ e.value)) es z)
    first h (inl g) = inl (h ∙ g)
    first h (inr g) = own (h ∙ g)

    by : IsOne (suc e.id) n z (dense es) (further side t (z e.id /ℚ e.value)) (furthest side (further side t (z e.id /ℚ e.value)) es z) → IsOne m n z (dense (e ∷ es)) t (furthest side (further side t (z e.id /ℚ e.value)) es z)
    by (inl h) = first h (one_of side t (z e.id /ℚ e.value))
    by (inr (k, b, l, h)) = let apart : k ≢ e.id = omega (arith, b) in inr (k, omega (arith, a.0, b), l, h ∙ ap (λ c. z k /ℚ c) (sym (put-other (dense es) e.id e.value k apart)))

without_least : (n : ℕ) (z a : Vector) (r : Number) → IsOne 0 n z a zero_ℚ r → (r ≡ zero_ℚ) ⊎ ((k : ℕ) × (k < n) × (r ≡ z k /ℚ a k))
without_least n z a r (inl h) = inl h
without_least n z a r (inr (k, b, l, h)) = inr (k, l, h)

pub greatest_is : (n : ℕ) (ts : List Term) (z : Vector) → Ascends 0 n ts → IsGreatestRatio n z (dense ts) (furthest Lower zero_ℚ ts z)
greatest_is n ts z a = record {
  zero = start_within Lower zero_ℚ ts z;
  each = λ k l. ratio_within Lower 0 n zero_ℚ ts z k a (≤ℚ_refl zero_ℚ);
  one = without_least n z (dense ts) (furthest Lower zero_ℚ ts z) (furthest_one Lower 0 n zero_ℚ ts z a);
}

pub least_is : (n : ℕ) (ts : List Term) (z : Vector) → Ascends 0 n ts → IsLeastRatio n z (dense ts) (furthest Upper zero_ℚ ts z)
least_is n ts z a = record {
  zero = start_within Upper zero_ℚ ts z;
  each = λ k l. ratio_within Upper 0 n zero_ℚ ts z k a (≤ℚ_refl zero_ℚ);
  one = without_least n z (dense ts) (furthest Upper zero_ℚ ts z) (furthest_one Upper 0 n zero_ℚ ts z a);
}

-- there is one greatest ratio, and one least
greatest_below : (n : ℕ) (z a : Vector) (t s : Number) → IsGreatestRatio n z a t → IsGreatestRatio n z a s → t ≤ℚ s
greatest_below n z a t s f g = by f.one
  where
    by : (t ≡ zero_ℚ) ⊎ ((k : ℕ) × (k < n) × (t ≡ z k /ℚ a k)) → t ≤ℚ s
    by (inl h) = subst (λ q. q ≤ℚ s) (sym h) g.zero
    by (inr (k, l, h)) = subst (λ q. q ≤ℚ s) (sym h) (g.each k l)

least_above : (n : ℕ) (z a : Vector) (t s : Number) → IsLeastRatio n z a t → IsLeastRatio n z a s → s ≤ℚ t
least_above n z a t s f g = by f.one
  where
    by : (t ≡ zero_ℚ) ⊎ ((k : ℕ) × (k < n) × (t ≡ z k /ℚ a k)) → s ≤ℚ t
    by (inl h) = subst (λ q. s ≤ℚ q) (sym h) g.zero
    by (inr (k, l, h)) = subst (λ q. s ≤ℚ q) (sym h) (g.each k l)

pub greatest_one : (n : ℕ) (z a : Vector) (t s : Number) → IsGreatestRatio n z a t → IsGreatestRatio n z a s → t ≡ s
greatest_one n z a t s f g = ≤ℚ_antisym (greatest_below n z a t s f g) (greatest_below n z a s t g f)

pub least_one : (n : ℕ) (z a : Vector) (t s : Number) → IsLeastRatio n z a t → IsLeastRatio n z a s → t ≡ s
least_one n z a t s f g = ≤ℚ_antisym (least_above n z a s t g f) (least_above n z a t s f g)
