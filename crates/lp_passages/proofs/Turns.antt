-- The two senses.
use Rattle.std.proofs.Common.{◌≡◌, ℕ, pos, sym, refl, ap, ◌∙◌, [], ◌∷◌, subst, Option}
use Rattle.fractions.specs.Ring.{ring, v, num, ◌:+◌, ◌:-◌, ◌:*◌, inv}
use Rattle.fractions.specs.Number.{Number, rational, zero_ℚ, one_ℚ, ◌+ℚ◌, ◌-ℚ◌, ◌*ℚ◌, neg_ℚ}
use Rattle.fractions.specs.Order.{◌≤ℚ◌, ◌<ℚ◌, ≤ℚ-by, <ℚ-not}
use Rattle.fractions.specs.Total.{total}
use Rattle.fractions.proofs.Totals.{total_same, total-*}
use Rattle.lp_model.specs.declared.program.Sense.{Sense}
use Rattle.lp_model.specs.declared.program.Sense.TheVariants.{Min, Max}
use Rattle.lp_model.specs.Vectors.{Vector}
use Rattle.lp_model.specs.LinearProgram.{LinearProgram, value_at, cost_at, Feasible}
use Rattle.lp_model.specs.Senses.{Sits}
use Rattle.lp_model.specs.Optimality.{reduced_cost, Meets}
use Rattle.lp_model.specs.Reductions.{Reduces, Priced, IsPriced, ReducesPairs}
use Rattle.lp_model.specs.Verdicts.{NoPoint, Endless, NoPointOrEndless}
use Rattle.lp_model.specs.Turning.{negated, minimizing, signed, turned, in_sense}
use Rattle.lp_theory.proofs.Pairs.{below_if_not}

-- ---- signs
pub neg_neg : (a : Number) → neg_ℚ (neg_ℚ a) ≡ a
neg_neg a = ring rational (a ∷ []) (inv (inv (v 0))) (v 0) refl

neg_le : (a b : Number) → a ≤ℚ b → neg_ℚ b ≤ℚ neg_ℚ a
neg_le a b h = ≤ℚ-by a b (neg_ℚ b) (neg_ℚ a) (ring rational (a ∷ b ∷ []) (v 1 :- v 0) (inv (v 0) :- inv (v 1)) refl) h

neg_back : (a b : Number) → neg_ℚ a ≤ℚ neg_ℚ b → b ≤ℚ a
neg_back a b h = ≤ℚ-by (neg_ℚ a) (neg_ℚ b) b a (ring rational (a ∷ b ∷ []) (inv (v 1) :- inv (v 0)) (v 0 :- v 1) refl) h

-- a negated number is positive where the number is negative
pub turn_pos : (m : Number) → zero_ℚ <ℚ neg_ℚ m → m <ℚ zero_ℚ
turn_pos m h = below_if_not (λ q. <ℚ-not h (≤ℚ-by zero_ℚ m (neg_ℚ m) zero_ℚ (ring rational (m ∷ []) (v 0 :- num (pos 0)) (num (pos 0) :- inv (v 0)) refl) q))

pub turn_neg : (m : Number) → neg_ℚ m <ℚ zero_ℚ → zero_ℚ <ℚ m
turn_neg m h = below_if_not (λ q. <ℚ-not h (≤ℚ-by m zero_ℚ zero_ℚ (neg_ℚ m) (ring rational (m ∷ []) (num (pos 0) :- v 0) (inv (v 0) :- num (pos 0)) refl) q))

pub sits_turned : (l u : Option Number) (w m : Number) → Sits Max l u w m → Sits Min l u w (neg_ℚ m)
sits_turned l u w m s = ((λ h. s.0 (turn_pos m h)), λ h. s.1 (turn_neg m h))

pub sits_back : (l u : Option Number) (w m : Number) → Sits Min l u w m → Sits Max l u w (neg_ℚ m)
sits_back l u w m s = ((λ h. s.0 (turn_neg m h)), λ h. s.1 (turn_pos m h))

-- ---- sums
pub total-neg : (n : ℕ) (a x : Vector) → total n (λ k. neg_ℚ (a k) *ℚ x k) ≡ neg_ℚ (total n (λ k. a k *ℚ x k))
total-neg n a x = total_same n _ (λ k. neg_ℚ one_ℚ *ℚ (a k *ℚ x k)) (λ k l. ring rational (a k ∷ x k ∷ []) (inv (v 0) :* v 1) (inv (num (pos 1)) :* (v 0 :* v 1)) refl)
    ∙ total-* n (neg_ℚ one_ℚ) (λ k. a k *ℚ x k)
    ∙ ring rational (total n (λ k. a k *ℚ x k) ∷ []) (inv (num (pos 1)) :* v 0) (inv (v 0)) refl

pub cost-negated : (M : LinearProgram) (x : Vector) → cost_at (negated M) x ≡ neg_ℚ (cost_at M x)
cost-negated M x = ap (λ t. t +ℚ neg_ℚ M.constant) (total-neg M.columns M.costs x)
    ∙ ring rational (total M.columns (λ k. M.costs k *ℚ x k) ∷ M.constant ∷ []) (inv (v 0) :+ inv (v 1)) (inv (v 0 :+ v 1)) refl

-- ---- points
pub feasible_turned : (M : LinearProgram) (x : Vector) → Feasible M x → Feasible (negated M) x
feasible_turned M x h = record { rows = h.rows; columns = h.columns; whole = h.whole; gaps = h.gaps }

pub feasible_back : (M : LinearProgram) (x : Vector) → Feasible (negated M) x → Feasible M x
feasible_back M x h = record { rows = h.rows; columns = h.columns; whole = h.whole; gaps = h.gaps }

pub reduces_max : (M R : LinearProgram) (f : Vector → Vector) (k : Number) → Reduces Min (negated M) (negated R) f (neg_ℚ k) → Reduces Max M R f k
reduces_max M R f k r = record {
  lifts = λ x h. feasible_back M (f x) (r.lifts x (feasible_turned R x h));
  costs = λ x h.
      ring rational (cost_at M (f x) ∷ []) (v 0) (inv (inv (v 0))) refl
      ∙ ap neg_ℚ (sym (cost-negated M (f x)) ∙ r.costs x (feasible_turned R x h) ∙ ap (λ c. c +ℚ neg_ℚ k) (cost-negated R x))
      ∙ ring rational (cost_at R x ∷ k ∷ []) (inv (inv (v 0) :+ inv (v 1))) (v 0 :+ v 1) refl;
  keeps = λ w h. let p = r.keeps w (feasible_turned M w h) in (
    p.0,
    feasible_back R p.0 p.1,
    neg_back (cost_at R p.0 +ℚ k) (cost_at M w)
        (subst (λ c. c ≤ℚ neg_ℚ (cost_at M w))
        (ap (λ c. c +ℚ neg_ℚ k) (cost-negated R p.0) ∙ ring rational (cost_at R p.0 ∷ k ∷ []) (inv (v 0) :+ inv (v 1)) (inv (v 0 :+ v 1)) refl)
        (subst (λ c. (cost_at (negated R) p.0 +ℚ neg_ℚ k) ≤ℚ c) (cost-negated M w) p.2)),
  );
}

pub endless_max : (M : LinearProgram) → Endless Min (negated M) → Endless Max M
endless_max M e K = let p = e (neg_ℚ K) in
    (p.0, feasible_back M p.0 p.1, below_if_not (λ q. <ℚ-not (subst (λ c. c <ℚ neg_ℚ K) (cost-negated M p.0) p.2) (neg_le (cost_at M p.0) K q)))

-- ---- pairs
pub reduced-turned : (M : LinearProgram) (y : Vector) (j : ℕ) → reduced_cost (negated M) (λ i. neg_ℚ (y i)) j ≡ neg_ℚ (reduced_cost M y j)
reduced-turned M y j = ap (λ t. neg_ℚ (M.costs j) -ℚ t) (total-neg M.rows y (λ i. M.coefficient i j))
    ∙ ring rational (M.costs j ∷ total M.rows (λ i. y i *ℚ M.coefficient i j) ∷ []) (inv (v 0) :- inv (v 1)) (inv (v 0 :- v 1)) refl

pub reduced-back : (M : LinearProgram) (y : Vector) (j : ℕ) → reduced_cost M (λ i. neg_ℚ (y i)) j ≡ neg_ℚ (reduced_cost (negated M) y j)
reduced-back M y j = ap (λ t. M.costs j -ℚ t) (total-neg M.rows y (λ i. M.coefficient i j))
    ∙ ring rational (M.costs j ∷ total M.rows (λ i. y i *ℚ M.coefficient i j) ∷ []) (v 0 :- inv (v 1)) (inv (inv (v 0) :- v 1)) refl

pub meets_turned : (M : LinearProgram) (x y : Vector) → Meets Max M x y → Meets Min (negated M) x (λ i. neg_ℚ (y i))
meets_turned M x y m = record {
  continuous = m.continuous;
  feasible = feasible_turned M x m.feasible;
  rows = λ i l. sits_turned (M.lower_side i) (M.upper_side i) (value_at M i x) (y i) (m.rows i l);
  columns = λ j l. subst (Sits Min (M.lower_bound j) (M.upper_bound j) (x j)) (sym (reduced-turned M y j)) (sits_turned (M.lower_bound j) (M.upper_bound j) (x j) (reduced_cost M y j) (m.columns j l));
}

pub meets_back : (M : LinearProgram) (x y : Vector) → Meets Min (negated M) x y → Meets Max M x (λ i. neg_ℚ (y i))
meets_back M x y m = record {
  continuous = m.continuous;
  feasible = feasible_back M x m.feasible;
  rows = λ i l. sits_back (M.lower_side i) (M.upper_side i) (value_at M i x) (y i) (m.rows i l);
  columns = λ j l. subst (Sits Max (M.lower_bound j) (M.upper_bound j) (x j)) (sym (reduced-back M y j)) (sits_back (M.lower_bound j) (M.upper_bound j) (x j) (reduced_cost (negated M) y j) (m.columns j l));
}

pub pairs_max : (M R : LinearProgram) (f : Priced → Priced) → ReducesPairs Min (negated M) (negated R) f → ReducesPairs Max M R (in_sense Max f)
pairs_max M R f a = record {
  priced = λ p i m. λ j l. ap neg_ℚ (a.priced (turned p) (before p i) (meets_turned R p.x p.y m) j l) ∙ sym (reduced-back M (f (turned p)).y j);
  meets = λ p i m. meets_back M (f (turned p)).x (f (turned p)).y (a.meets (turned p) (before p i) (meets_turned R p.x p.y m));
}
  where
    before : (p : Priced) → IsPriced R p → IsPriced (negated R) (turned p)
    before p i j l = ap neg_ℚ (i j l) ∙ sym (reduced-turned R p.y j)

-- ---- in the sense of the file
pub reduces_in : (d : Sense) (M R : LinearProgram) (f : Vector → Vector) (k : Number) → Reduces Min (minimizing d M) (minimizing d R) f k → Reduces d M R f (signed d k)
reduces_in Min M R f k r = r
reduces_in Max M R f k r = reduces_max M R f (neg_ℚ k) (subst (λ c. Reduces Min (negated M) (negated R) f c) (sym (neg_neg k)) r)

pub pairs_in : (d : Sense) (M R : LinearProgram) (f : Priced → Priced) → ReducesPairs Min (minimizing d M) (minimizing d R) f → ReducesPairs d M R (in_sense d f)
pairs_in Min M R f a = a
pairs_in Max M R f a = pairs_max M R f a

pub no_point_in : (d : Sense) (M : LinearProgram) → NoPoint (minimizing d M) → NoPoint M
no_point_in Min M n x h = n x h
no_point_in Max M n x h = n x (feasible_turned M x h)

pub either_in : (d : Sense) (M : LinearProgram) → NoPointOrEndless Min (minimizing d M) → NoPointOrEndless d M
either_in Min M e x h = e x h
either_in Max M e x h = endless_max M (e x (feasible_turned M x h))
