-- Points and duals that are the same at each column and row of a program.
use Rattle.std.proofs.Common.{◌≡◌, ℕ, zero, suc, ◌<◌, ap, subst, arith}
use Rattle.fractions.specs.Number.{◌+ℚ◌, ◌-ℚ◌, ◌*ℚ◌}
use Rattle.fractions.specs.Lowest.{Fits}
use Rattle.fractions.specs.Total.{total}
use Rattle.fractions.specs.Ends.{Between}
use Rattle.fractions.specs.Floor.{IsWhole}
use Rattle.fractions.proofs.Totals.{total_same}
use Rattle.fractions.specs.FracWords.{SumFits}
use Rattle.lp_model.specs.declared.program.Sense.{Sense}
use Rattle.lp_model.specs.Vectors.{Vector}
use Rattle.lp_model.specs.Gaps.{Clears}
use Rattle.lp_model.specs.LinearProgram.{LinearProgram, value_at, cost_at, Feasible}
use Rattle.lp_model.specs.Room.{ProductsFit, CostFits}
use Rattle.lp_model.specs.Senses.{Sits}
use Rattle.lp_model.specs.Optimality.{Meets, reduced_cost}

products_same : (n : ℕ) (a x y : Vector) → ((k : ℕ) → k < n → x k ≡ y k) → total n (λ k. a k *ℚ x k) ≡ total n (λ k. a k *ℚ y k)
products_same n a x y e = total_same n (λ k. a k *ℚ x k) (λ k. a k *ℚ y k) (λ k l. ap (λ z. a k *ℚ z) (e k l))

products_fit : (n : ℕ) (a x y : Vector) → ((k : ℕ) → k < n → x k ≡ y k) → ProductsFit n a x → ProductsFit n a y
products_fit zero a x y e h = tt
products_fit (suc n) a x y e h =
    let at : x n ≡ y n = e n (omega arith) in
    let before : (k : ℕ) → k < n → x k ≡ y k = λ k l. e k (omega arith) in (
      products_fit n a x y before h.0,
      subst (λ z. Fits (a n *ℚ z)) at h.1,
      subst (λ z. SumFits (total n (λ k. a k *ℚ y k)) (a n *ℚ z)) at (subst (λ s. SumFits s (a n *ℚ x n)) (products_same n a x y before) h.2),
    )

pub cost_same : (M : LinearProgram) (x y : Vector) → ((j : ℕ) → j < M.columns → x j ≡ y j) → cost_at M x ≡ cost_at M y
cost_same M x y e = ap (λ s. s +ℚ M.constant) (products_same M.columns M.costs x y e)

pub cost_fits : (M : LinearProgram) (x y : Vector) → ((j : ℕ) → j < M.columns → x j ≡ y j) → CostFits M x → CostFits M y
cost_fits M x y e h = (products_fit M.columns M.costs x y e h.0, subst (λ s. SumFits s M.constant) (products_same M.columns M.costs x y e) h.1)

value_same : (M : LinearProgram) (i : ℕ) (x y : Vector) → ((j : ℕ) → j < M.columns → x j ≡ y j) → value_at M i x ≡ value_at M i y
value_same M i x y e = products_same M.columns (M.coefficient i) x y e

feasible_same : (M : LinearProgram) (x y : Vector) → ((j : ℕ) → j < M.columns → x j ≡ y j) → Feasible M x → Feasible M y
feasible_same M x y e f = record {
  rows = λ i l. subst (λ z. Between (M.lower_side i) (M.upper_side i) z) (value_same M i x y e) (f.rows i l);
  columns = λ j l. subst (λ z. Between (M.lower_bound j) (M.upper_bound j) z) (e j l) (f.columns j l);
  whole = λ j l t. subst (λ z. IsWhole z) (e j l) (f.whole j l t);
  gaps = λ j l. subst (λ z. Clears (M.gap j) z) (e j l) (f.gaps j l);
}

cost_left : (M : LinearProgram) (y w : Vector) → ((i : ℕ) → i < M.rows → y i ≡ w i) → (j : ℕ) → reduced_cost M y j ≡ reduced_cost M w j
cost_left M y w e j = ap (λ s. M.costs j -ℚ s) (total_same M.rows (λ i. y i *ℚ M.coefficient i j) (λ i. w i *ℚ M.coefficient i j) (λ i l. ap (λ z. z *ℚ M.coefficient i j) (e i l)))

pub meets_same : (s : Sense) (M : LinearProgram) (x z y w : Vector) → ((j : ℕ) → j < M.columns → x j ≡ z j) → ((i : ℕ) → i < M.rows → y i ≡ w i) → Meets s M x y → Meets s M z w
meets_same s M x z y w ex ey m = record {
  continuous = m.continuous;
  feasible = feasible_same M x z ex m.feasible;
  rows = λ i l. subst (λ d. Sits s (M.lower_side i) (M.upper_side i) (value_at M i z) d) (ey i l) (subst (λ v. Sits s (M.lower_side i) (M.upper_side i) v (y i)) (value_same M i x z ex) (m.rows i l));
  columns = λ j l. subst (λ d. Sits s (M.lower_bound j) (M.upper_bound j) (z j) d) (cost_left M y w ey j) (subst (λ v. Sits s (M.lower_bound j) (M.upper_bound j) v (reduced_cost M y j)) (ex j l) (m.columns j l));
}
