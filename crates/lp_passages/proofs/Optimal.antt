-- Optimality conditions are a proof that no feasible point costs less; and the sense of a program.
use Rattle.std.proofs.Common.{◌≡◌, ℕ, ◌<◌, pos, sym, refl, ap, ap₂, ◌∙◌, [], ◌∷◌, inl, inr, subst, Option, Some}
use Rattle.fractions.specs.Ring.{ring, v, num, ◌:+◌, ◌:-◌, ◌:*◌, inv}
use Rattle.fractions.specs.Order.{◌≤ℚ◌, ◌<ℚ◌, ≤ℚ_antisym, ≤ℚ-by, ≤ℚ-*ℚ, ≤ℚ_cases, <ℚ-≤ℚ, ≤ℚ-+ℚ}
use Rattle.fractions.specs.Number.{Number, rational, ◌+ℚ◌, ◌-ℚ◌, ◌*ℚ◌, neg_ℚ, of_ℤ, zero_ℚ}
use Rattle.fractions.specs.Total.{total}
use Rattle.lp_model.specs.LinearProgram.{LinearProgram, value_at, cost_at, Feasible}
use Rattle.lp_model.specs.Vectors.{Vector}
use Rattle.fractions.specs.Ends.{AtLeast, AtMost, Between}
use Rattle.lp_model.specs.Reductions.{Priced}
use Rattle.lp_theory.proofs.Carrying.{Carries, carries_of}
use Rattle.lp_model.specs.Turning.{negated}
use Rattle.lp_passages.proofs.Turns.{cost-negated, feasible_turned, meets_turned}
use Rattle.lp_model.specs.declared.program.Sense.{Sense}
use Rattle.lp_model.specs.declared.program.Sense.TheVariants.{Min, Max}
use Rattle.lp_model.specs.Senses.{NoWorse}
use Rattle.lp_model.specs.Optimality.{reduced_cost, Meets}
use Rattle.fractions.proofs.Totals.{total_same, total-zero, total-+, total-*, total-≤, total_swap}
use Rattle.fractions.specs.Signs.{≤ℚ-same, ≤ℚ-*ℚ_down}

-- a price times what another value has more
term_ge : (z x w : Number) (l u : Option Number) → (zero_ℚ <ℚ z → l ≡ Some x) → (z <ℚ zero_ℚ → u ≡ Some x) → Between l u w → zero_ℚ ≤ℚ (z *ℚ (w -ℚ x))
term_ge z x w l u f g b = elim (≤ℚ_cases z zero_ℚ) [
  | inr p ↦ ≤ℚ-by (z *ℚ x) (z *ℚ w) zero_ℚ (z *ℚ (w -ℚ x)) (ring rational (z ∷ x ∷ w ∷ []) (v 0 :* v 2 :- v 0 :* v 1) (v 0 :* (v 2 :- v 1) :- num (pos 0)) refl) (≤ℚ-*ℚ z (<ℚ-≤ℚ p) (subst (λ o. AtLeast o w) (f p) b.low))
  | inl n ↦ elim (≤ℚ_cases zero_ℚ z) [
    | inr p ↦ ≤ℚ-by (z *ℚ x) (z *ℚ w) zero_ℚ (z *ℚ (w -ℚ x)) (ring rational (z ∷ x ∷ w ∷ []) (v 0 :* v 2 :- v 0 :* v 1) (v 0 :* (v 2 :- v 1) :- num (pos 0)) refl) (≤ℚ-*ℚ_down z n (subst (λ o. AtMost o w) (g p) b.high))
    | inl p ↦ ≤ℚ-same (ring rational ((w -ℚ x) ∷ []) (num (pos 0)) (num (pos 0) :* v 0) refl ∙ ap (λ c. c *ℚ (w -ℚ x)) (≤ℚ_antisym p n))
  ]
]

total_ge : (n : ℕ) (f : ℕ → Number) → ((k : ℕ) → k < n → zero_ℚ ≤ℚ f k) → zero_ℚ ≤ℚ total n f
total_ge n f h = subst (λ c. c ≤ℚ total n f) (total-zero n (λ k. zero_ℚ) (λ k l. refl)) (total-≤ n (λ k. zero_ℚ) f h)

-- c x by prices: what is left of the costs, and the rows
cost_by_prices : (M : LinearProgram) (y x : Vector) → total M.columns (λ j. M.costs j *ℚ x j) ≡ total M.columns (λ j. reduced_cost M y j *ℚ x j) +ℚ total M.rows (λ i. y i *ℚ value_at M i x)
cost_by_prices M y x =
    total_same M.columns _ (λ j. reduced_cost M y j *ℚ x j +ℚ total M.rows (λ i. y i *ℚ (M.coefficient i j *ℚ x j))) (λ j l.
    ring rational (M.costs j ∷ x j ∷ total M.rows (λ i. y i *ℚ M.coefficient i j) ∷ []) (v 0 :* v 1) ((v 0 :- v 2) :* v 1 :+ v 1 :* v 2) refl
    ∙ ap (λ t. reduced_cost M y j *ℚ x j +ℚ t) (sym (total-* M.rows (x j) (λ i. y i *ℚ M.coefficient i j)) ∙ total_same M.rows _ _ (λ i m. ring rational (x j ∷ y i ∷ M.coefficient i j ∷ []) (v 0 :* (v 1 :* v 2)) (v 1 :* (v 2 :* v 0)) refl)))
    ∙ total-+ M.columns (λ j. reduced_cost M y j *ℚ x j) (λ j. total M.rows (λ i. y i *ℚ (M.coefficient i j *ℚ x j)))
    ∙ ap (λ t. total M.columns (λ j. reduced_cost M y j *ℚ x j) +ℚ t)
    (total_swap M.columns M.rows (λ i j. y i *ℚ (M.coefficient i j *ℚ x j)) ∙ total_same M.rows _ _ (λ i m. total-* M.columns (y i) (λ j. M.coefficient i j *ℚ x j)))

total-minus : (n : ℕ) (z x w : ℕ → Number) → total n (λ k. z k *ℚ (w k -ℚ x k)) ≡ total n (λ k. z k *ℚ w k) -ℚ total n (λ k. z k *ℚ x k)
total-minus n z x w = total_same n _ (λ k. z k *ℚ w k +ℚ of_ℤ (pos 0) *ℚ zero_ℚ +ℚ neg_ℚ (of_ℤ (pos 1)) *ℚ (z k *ℚ x k)) (λ k l. ring rational (z k ∷ x k ∷ w k ∷ []) (v 0 :* (v 2 :- v 1)) (v 0 :* v 2 :+ num (pos 0) :* num (pos 0) :+ inv (num (pos 1)) :* (v 0 :* v 1)) refl)
    ∙ total-+ n (λ k. z k *ℚ w k +ℚ of_ℤ (pos 0) *ℚ zero_ℚ) (λ k. neg_ℚ (of_ℤ (pos 1)) *ℚ (z k *ℚ x k))
    ∙ ap₂ ◌+ℚ◌ (total_same n _ (λ k. z k *ℚ w k) (λ k l. ring rational ((z k *ℚ w k) ∷ []) (v 0 :+ num (pos 0) :* num (pos 0)) (v 0) refl)) (total-* n (neg_ℚ (of_ℤ (pos 1))) (λ k. z k *ℚ x k))
    ∙ ring rational (total n (λ k. z k *ℚ w k) ∷ total n (λ k. z k *ℚ x k) ∷ []) (v 0 :+ inv (num (pos 1)) :* v 1) (v 0 :- v 1) refl

pub meets_best : (M : LinearProgram) (s : Priced) → Carries M s → (w : Vector) → Feasible M w → cost_at M s.x ≤ℚ cost_at M w
meets_best M s h w f =
    let a : zero_ℚ ≤ℚ total M.columns (λ j. reduced_cost M s.y j *ℚ (w j -ℚ s.x j)) = total_ge M.columns _ (λ j l. subst (λ c. zero_ℚ ≤ℚ (c *ℚ (w j -ℚ s.x j))) (h.left j l) (term_ge (s.z j) (s.x j) (w j) (M.lower_bound j) (M.upper_bound j) (h.at_low j l) (h.at_high j l) (f.columns j l))) in
    let b : zero_ℚ ≤ℚ total M.rows (λ i. s.y i *ℚ (value_at M i w -ℚ value_at M i s.x)) = total_ge M.rows _ (λ i l. term_ge (s.y i) (value_at M i s.x) (value_at M i w) (M.lower_side i) (M.upper_side i) (h.pays_low i l) (h.pays_high i l) (f.rows i l)) in
    ≤ℚ-by (zero_ℚ +ℚ zero_ℚ) _ (cost_at M s.x) (cost_at M w)
    (ap₂ (λ p q. p +ℚ q -ℚ (zero_ℚ +ℚ zero_ℚ)) (total-minus M.columns (reduced_cost M s.y) s.x w) (total-minus M.rows s.y (λ i. value_at M i s.x) (λ i. value_at M i w))
    ∙ ring rational (total M.columns (λ j. reduced_cost M s.y j *ℚ w j) ∷ total M.columns (λ j. reduced_cost M s.y j *ℚ s.x j) ∷ total M.rows (λ i. s.y i *ℚ value_at M i w) ∷ total M.rows (λ i. s.y i *ℚ value_at M i s.x) ∷ M.constant ∷ [])
    ((v 0 :- v 1) :+ (v 2 :- v 3) :- (num (pos 0) :+ num (pos 0))) ((v 0 :+ v 2 :+ v 4) :- (v 1 :+ v 3 :+ v 4)) refl
    ∙ ap₂ (λ p q. p +ℚ M.constant -ℚ (q +ℚ M.constant)) (sym (cost_by_prices M s.y w)) (sym (cost_by_prices M s.y s.x)))
    (≤ℚ-+ℚ a b)

best_min : (M : LinearProgram) (x y : Vector) → Meets Min M x y → (w : Vector) → Feasible M w → cost_at M x ≤ℚ cost_at M w
best_min M x y m w f = meets_best M (record { x = x; y = y; z = reduced_cost M y }) (carries_of M (record { x = x; y = y; z = reduced_cost M y }) (λ j l. refl) m) w f

-- in both senses
pub meets_is_best : (s : Sense) (M : LinearProgram) (x y : Vector) → Meets s M x y → (w : Vector) → Feasible M w → NoWorse s (cost_at M x) (cost_at M w)
meets_is_best Min M x y m w f = best_min M x y m w f
meets_is_best Max M x y m w f =
    let k : cost_at (negated M) x ≤ℚ cost_at (negated M) w = best_min (negated M) x (λ i. neg_ℚ (y i)) (meets_turned M x y m) w (feasible_turned M w f) in
    ≤ℚ-by (neg_ℚ (cost_at M x)) (neg_ℚ (cost_at M w)) (cost_at M w) (cost_at M x) (ring rational (cost_at M x ∷ cost_at M w ∷ []) (inv (v 1) :- inv (v 0)) (v 0 :- v 1) refl)
    (subst (λ c. c ≤ℚ neg_ℚ (cost_at M w)) (cost-negated M x) (subst (λ c. cost_at (negated M) x ≤ℚ c) (cost-negated M w) k))
