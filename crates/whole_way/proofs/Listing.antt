-- Points as lists, and points that agree at all columns.
use Rattle.std.proofs.Common.{◌≡◌, ℕ, zero, suc, ◌<◌, List, [], ◌∷◌, length, refl, ap, subst, arith}
use Rattle.fractions.specs.Number.{Number, ◌+ℚ◌, ◌*ℚ◌}
use Rattle.fractions.specs.Ends.{Between}
use Rattle.fractions.specs.Floor.{IsWhole}
use Rattle.fractions.proofs.Totals.{total_same}
use Rattle.lp_model.specs.Vectors.{Vector, vector_of}
use Rattle.lp_model.specs.Gaps.{Clears}
use Rattle.lp_model.specs.LinearProgram.{LinearProgram, value_at, cost_at, Feasible}

-- the first n numbers of a vector
abbrev pub listed : ℕ → Vector → List Number
listed zero x = []
listed (suc n) x = x zero ∷ listed n (λ k. x (suc k))

pub length-listed : (n : ℕ) (x : Vector) → length (listed n x) ≡ n
length-listed zero x = refl
length-listed (suc n) x = ap suc (length-listed n (λ k. x (suc k)))

pub listed_is : (n k : ℕ) (x : Vector) → k < n → x k ≡ vector_of (listed n x) k
listed_is zero k x l = absurd (omega (arith, l))
listed_is (suc n) zero x l = refl
listed_is (suc n) (suc k) x l = listed_is n k (λ k. x (suc k)) (omega (arith, l))

module _ (M : LinearProgram) (x y : Vector) (h : (k : ℕ) → k < M.columns → x k ≡ y k) where
  pub cost_agrees : cost_at M x ≡ cost_at M y
  cost_agrees = ap (λ t. t +ℚ M.constant) (total_same M.columns (λ j. M.costs j *ℚ x j) (λ j. M.costs j *ℚ y j) (λ j l. ap (λ v. M.costs j *ℚ v) (h j l)))

  value_agrees : (i : ℕ) → value_at M i x ≡ value_at M i y
  value_agrees i = total_same M.columns (λ j. M.coefficient i j *ℚ x j) (λ j. M.coefficient i j *ℚ y j) (λ j l. ap (λ v. M.coefficient i j *ℚ v) (h j l))

  pub feasible_agrees : Feasible M x → Feasible M y
  feasible_agrees f = record {
    rows = λ i l. subst (Between (M.lower_side i) (M.upper_side i)) (value_agrees i) (f.rows i l);
    columns = λ j l. subst (Between (M.lower_bound j) (M.upper_bound j)) (h j l) (f.columns j l);
    whole = λ j l w. subst IsWhole (h j l) (f.whole j l w);
    gaps = λ j l. subst (Clears (M.gap j)) (h j l) (f.gaps j l);
  }
