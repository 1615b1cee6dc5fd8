-- A row's value lies between its least and greatest activity; bounds that a row implies.
use Rattle.std.proofs.Common.{◌≡◌, ℕ, zero, suc, ◌<◌, ◌≢◌, pos, sym, refl, ap, ◌∙◌, arith, [], ◌∷◌, ◌⊎◌, inl, inr, subst, Option, Some, None, Bool, true, false, T}
use Rattle.std.specs.Prelude.{if◌then◌else◌}
use Rattle.fractions.specs.Ring.{ring, v, num, ◌:+◌, ◌:-◌, ◌:*◌}
use Rattle.fractions.specs.Order.{◌≤ℚ◌, ◌<ℚ◌, ≤ℚ_refl, ≤ℚ_antisym, ≤ℚ-+ℚ, ≤ℚ-*ℚ, ≤ℚ_cases, <ℚ-≤ℚ}
use Rattle.fractions.specs.Number.{Number, rational, ◌+ℚ◌, ◌*ℚ◌, zero_ℚ}
use Rattle.fractions.specs.Total.{total, put}
use Rattle.lp_model.specs.LinearProgram.{LinearProgram, value_at}
use Rattle.lp_model.specs.Vectors.{Vector}
use Rattle.fractions.specs.Ends.{AtLeast, AtMost, Between, plus, scaled}
use Rattle.fractions.specs.Compare.{lt_ℚ}
use Rattle.lp_theory.specs.Activities.{total_ends, least_term, greatest_term, least_terms, greatest_terms, least, greatest, least_rest, greatest_rest}
use Rattle.fractions.proofs.Totals.{put-same, put-other, at_or_off, total-put}
use Rattle.fractions.specs.Signs.{≤ℚ-same, ≤ℚ-*ℚ_down}

pub AtLeast-+ : (p q : Option Number) (a b : Number) → AtLeast p a → AtLeast q b → AtLeast (plus p q) (a +ℚ b)
AtLeast-+ None q a b h k = tt
AtLeast-+ (Some c) None a b h k = tt
AtLeast-+ (Some c) (Some d) a b h k = ≤ℚ-+ℚ h k

pub AtMost-+ : (p q : Option Number) (a b : Number) → AtMost p a → AtMost q b → AtMost (plus p q) (a +ℚ b)
AtMost-+ None q a b h k = tt
AtMost-+ (Some c) None a b h k = tt
AtMost-+ (Some c) (Some d) a b h k = ≤ℚ-+ℚ h k

pub total_ends-low : (n : ℕ) (e : ℕ → Option Number) (f : ℕ → Number) → ((k : ℕ) → k < n → AtLeast (e k) (f k)) → AtLeast (total_ends n e) (total n f)
unfolding total_ends total
total_ends-low zero e f h = ≤ℚ_refl zero_ℚ
total_ends-low (suc n) e f h = AtLeast-+ (total_ends n e) (e n) (total n f) (f n) (total_ends-low n e f (λ k l. h k (omega arith))) (h n (omega arith))

pub total_ends-high : (n : ℕ) (e : ℕ → Option Number) (f : ℕ → Number) → ((k : ℕ) → k < n → AtMost (e k) (f k)) → AtMost (total_ends n e) (total n f)
unfolding total_ends total
total_ends-high zero e f h = ≤ℚ_refl zero_ℚ
total_ends-high (suc n) e f h = AtMost-+ (total_ends n e) (e n) (total n f) (f n) (total_ends-high n e f (λ k l. h k (omega arith))) (h n (omega arith))

pub scaled-low_low : (a : Number) (l : Option Number) (x : Number) → zero_ℚ ≤ℚ a → AtLeast l x → AtLeast (scaled a l) (a *ℚ x)
scaled-low_low a None x p h = tt
scaled-low_low a (Some b) x p h = ≤ℚ-*ℚ a p h

pub scaled-high_high : (a : Number) (u : Option Number) (x : Number) → zero_ℚ ≤ℚ a → AtMost u x → AtMost (scaled a u) (a *ℚ x)
scaled-high_high a None x p h = tt
scaled-high_high a (Some b) x p h = ≤ℚ-*ℚ a p h

pub scaled-high_low : (a : Number) (u : Option Number) (x : Number) → a ≤ℚ zero_ℚ → AtMost u x → AtLeast (scaled a u) (a *ℚ x)
scaled-high_low a None x p h = tt
scaled-high_low a (Some b) x p h = ≤ℚ-*ℚ_down a p h

pub scaled-low_high : (a : Number) (l : Option Number) (x : Number) → a ≤ℚ zero_ℚ → AtLeast l x → AtMost (scaled a l) (a *ℚ x)
scaled-low_high a None x p h = tt
scaled-low_high a (Some b) x p h = ≤ℚ-*ℚ_down a p h

-- what a test says
pub lt_true : (p q : Number) → lt_ℚ p q ≡ true → p <ℚ q
lt_true p q e = record { lt = subst T (sym e) tt }

pub lt_false : (p q : Number) → lt_ℚ p q ≡ false → q ≤ℚ p
lt_false p q e = by (≤ℚ_cases q p)
  where
    by : (q ≤ℚ p) ⊎ (p <ℚ q) → q ≤ℚ p
    by (inl h) = h
    by (inr h) = absurd (subst T e h.lt)

pub least_term-low : (a : Number) (l u : Option Number) (x : Number) → Between l u x → AtLeast (least_term a l u) (a *ℚ x)
unfolding least_term
least_term-low a l u x b = by (lt_ℚ zero_ℚ a) (lt_ℚ a zero_ℚ) refl refl
  where
    by : (s t : Bool) → lt_ℚ zero_ℚ a ≡ s → lt_ℚ a zero_ℚ ≡ t → AtLeast (if s then scaled a l else if t then scaled a u else Some zero_ℚ) (a *ℚ x)
    by true t e f = scaled-low_low a l x (<ℚ-≤ℚ (lt_true _ _ e)) b.low
    by false true e f = scaled-high_low a u x (lt_false _ _ e) b.high
    by false false e f =
        let z : a ≡ zero_ℚ = ≤ℚ_antisym (lt_false _ _ e) (lt_false _ _ f) in
        ≤ℚ-same (sym (ap (λ c. c *ℚ x) z ∙ ring rational (x ∷ []) (num (pos 0) :* v 0) (num (pos 0)) refl))

pub greatest_term-high : (a : Number) (l u : Option Number) (x : Number) → Between l u x → AtMost (greatest_term a l u) (a *ℚ x)
unfolding least_term
greatest_term-high a l u x b = by (lt_ℚ zero_ℚ a) (lt_ℚ a zero_ℚ) refl refl
  where
    by : (s t : Bool) → lt_ℚ zero_ℚ a ≡ s → lt_ℚ a zero_ℚ ≡ t → AtMost (if s then scaled a u else if t then scaled a l else Some zero_ℚ) (a *ℚ x)
    by true t e f = scaled-high_high a u x (<ℚ-≤ℚ (lt_true _ _ e)) b.high
    by false true e f = scaled-low_high a l x (lt_false _ _ e) b.low
    by false false e f =
        let z : a ≡ zero_ℚ = ≤ℚ_antisym (lt_false _ _ e) (lt_false _ _ f) in
        ≤ℚ-same (ap (λ c. c *ℚ x) z ∙ ring rational (x ∷ []) (num (pos 0) :* v 0) (num (pos 0)) refl)

-- ---- rows
pub least-value : (M : LinearProgram) (i : ℕ) (x : Vector) → ((j : ℕ) → j < M.columns → Between (M.lower_bound j) (M.upper_bound j) (x j)) → AtLeast (least M i) (value_at M i x)
least-value M i x b = total_ends-low M.columns (least_terms M i) (λ k. M.coefficient i k *ℚ x k) (λ k l. least_term-low (M.coefficient i k) (M.lower_bound k) (M.upper_bound k) (x k) (b k l))

pub greatest-value : (M : LinearProgram) (i : ℕ) (x : Vector) → ((j : ℕ) → j < M.columns → Between (M.lower_bound j) (M.upper_bound j) (x j)) → AtMost (greatest M i) (value_at M i x)
greatest-value M i x b = total_ends-high M.columns (greatest_terms M i) (λ k. M.coefficient i k *ℚ x k) (λ k l. greatest_term-high (M.coefficient i k) (M.lower_bound k) (M.upper_bound k) (x k) (b k l))

-- the row's value without column j
abbrev pub rest : LinearProgram → ℕ → ℕ → Vector → Number
rest M i j x = total M.columns (put (λ k. M.coefficient i k *ℚ x k) j zero_ℚ)

pub value-rest : (M : LinearProgram) (i j : ℕ) (x : Vector) → j < M.columns → value_at M i x ≡ M.coefficient i j *ℚ x j +ℚ rest M i j x
value-rest M i j x l =
    ring rational (value_at M i x ∷ (M.coefficient i j *ℚ x j) ∷ []) (v 0) (v 1 :+ (v 0 :- v 1 :+ num (pos 0))) refl
    ∙ ap (λ r. M.coefficient i j *ℚ x j +ℚ r) (sym (total-put M.columns (λ k. M.coefficient i k *ℚ x k) j zero_ℚ l))

pub least_rest-value : (M : LinearProgram) (i j : ℕ) (x : Vector) → ((k : ℕ) → k < M.columns → Between (M.lower_bound k) (M.upper_bound k) (x k)) → AtLeast (least_rest M i j) (rest M i j x)
least_rest-value M i j x b = total_ends-low M.columns (put (least_terms M i) j (Some zero_ℚ)) (put (λ k. M.coefficient i k *ℚ x k) j zero_ℚ)
    (at_or_off (λ k. k < M.columns → AtLeast (put (least_terms M i) j (Some zero_ℚ) k) (put (λ k. M.coefficient i k *ℚ x k) j zero_ℚ k)) j
    (λ l. rw (put-same (least_terms M i), put-same (λ k. M.coefficient i k *ℚ x k)) (≤ℚ_refl zero_ℚ))
    (λ k n l. rw (put-other (least_terms M i) j (Some zero_ℚ) k n, put-other (λ k. M.coefficient i k *ℚ x k) j zero_ℚ k n) (least_term-low (M.coefficient i k) (M.lower_bound k) (M.upper_bound k) (x k) (b k l))))

pub greatest_rest-value : (M : LinearProgram) (i j : ℕ) (x : Vector) → ((k : ℕ) → k < M.columns → Between (M.lower_bound k) (M.upper_bound k) (x k)) → AtMost (greatest_rest M i j) (rest M i j x)
greatest_rest-value M i j x b = total_ends-high M.columns (put (greatest_terms M i) j (Some zero_ℚ)) (put (λ k. M.coefficient i k *ℚ x k) j zero_ℚ)
    (at_or_off (λ k. k < M.columns → AtMost (put (greatest_terms M i) j (Some zero_ℚ) k) (put (λ k. M.coefficient i k *ℚ x k) j zero_ℚ k)) j
    (λ l. rw (put-same (greatest_terms M i), put-same (λ k. M.coefficient i k *ℚ x k)) (≤ℚ_refl zero_ℚ))
    (λ k n l. rw (put-other (greatest_terms M i) j (Some zero_ℚ) k n, put-other (λ k. M.coefficient i k *ℚ x k) j zero_ℚ k n) (greatest_term-high (M.coefficient i k) (M.lower_bound k) (M.upper_bound k) (x k) (b k l))))

-- the same where nothing is known of column j
pub least_rest-off : (M : LinearProgram) (i j : ℕ) (x : Vector) → ((k : ℕ) → k ≢ j → k < M.columns → Between (M.lower_bound k) (M.upper_bound k) (x k)) → AtLeast (least_rest M i j) (rest M i j x)
least_rest-off M i j x b = total_ends-low M.columns (put (least_terms M i) j (Some zero_ℚ)) (put (λ k. M.coefficient i k *ℚ x k) j zero_ℚ)
    (at_or_off (λ k. k < M.columns → AtLeast (put (least_terms M i) j (Some zero_ℚ) k) (put (λ k. M.coefficient i k *ℚ x k) j zero_ℚ k)) j
    (λ l. rw (put-same (least_terms M i), put-same (λ k. M.coefficient i k *ℚ x k)) (≤ℚ_refl zero_ℚ))
    (λ k n l. rw (put-other (least_terms M i) j (Some zero_ℚ) k n, put-other (λ k. M.coefficient i k *ℚ x k) j zero_ℚ k n) (least_term-low (M.coefficient i k) (M.lower_bound k) (M.upper_bound k) (x k) (b k n l))))

pub greatest_rest-off : (M : LinearProgram) (i j : ℕ) (x : Vector) → ((k : ℕ) → k ≢ j → k < M.columns → Between (M.lower_bound k) (M.upper_bound k) (x k)) → AtMost (greatest_rest M i j) (rest M i j x)
greatest_rest-off M i j x b = total_ends-high M.columns (put (greatest_terms M i) j (Some zero_ℚ)) (put (λ k. M.coefficient i k *ℚ x k) j zero_ℚ)
    (at_or_off (λ k. k < M.columns → AtMost (put (greatest_terms M i) j (Some zero_ℚ) k) (put (λ k. M.coefficient i k *ℚ x k) j zero_ℚ k)) j
    (λ l. rw (put-same (greatest_terms M i), put-same (λ k. M.coefficient i k *ℚ x k)) (≤ℚ_refl zero_ℚ))
    (λ k n l. rw (put-other (greatest_terms M i) j (Some zero_ℚ) k n, put-other (λ k. M.coefficient i k *ℚ x k) j zero_ℚ k n) (greatest_term-high (M.coefficient i k) (M.lower_bound k) (M.upper_bound k) (x k) (b k n l))))
