-- The tableau at which a run starts.
use Rattle.std.proofs.Common.{◌≡◌, ℕ, ◌+◌, ◌<◌, pos, sym, refl, ap, ◌∙◌, arith, [], ◌∷◌, subst, true, false, true≢false, Option, Some, None, inl}
use Rattle.fractions.specs.Ring.{ring, v, num, ◌:*◌}
use Rattle.fractions.specs.Number.{Number, rational, zero_ℚ, ◌*ℚ◌}
use Rattle.fractions.specs.Total.{total}
use Rattle.fractions.proofs.Totals.{total_same}
use Rattle.lp_model.specs.Vectors.{Vector}
use Rattle.lp_model.specs.LinearProgram.{LinearProgram, value_at}
use Rattle.tableau_laws.specs.Variables.{joined, variables, resting, lower_end, upper_end, IsExtended, Rests}
use Rattle.tableau_laws.specs.Tableaus.{start, start_point, Solves}
use Rattle.tableau_laws.specs.Keeping.{IsSplit, IsTableau}
use Rattle.tableau_laws.proofs.Joins.{joined-left, joined-right, at_or_from, total_front}

pub column_other : (M : LinearProgram) (k : ℕ) → k < M.columns → (start M).basic k ≡ false
column_other M k l = joined-left M.columns (λ j. false) (joined M.rows (λ i. true) (λ i. false)) k l

pub row_basic : (M : LinearProgram) (i : ℕ) → i < M.rows → (start M).basic (M.columns + i) ≡ true
row_basic M i l = joined-right M.columns (λ j. false) (joined M.rows (λ i. true) (λ i. false)) i ∙ joined-left M.rows (λ i. true) (λ i. false) i l

pub column_row : (M : LinearProgram) (k : ℕ) → k < M.columns → (start M).table k ≡ (λ k. zero_ℚ)
column_row M k l = joined-left M.columns (λ j k. zero_ℚ) (joined M.rows (λ i. joined M.columns (M.coefficient i) (λ k. zero_ℚ)) (λ i k. zero_ℚ)) k l

pub row_row : (M : LinearProgram) (i : ℕ) → i < M.rows → (start M).table (M.columns + i) ≡ joined M.columns (M.coefficient i) (λ k. zero_ℚ)
row_row M i l = joined-right M.columns (λ j k. zero_ℚ) (joined M.rows (λ i. joined M.columns (M.coefficient i) (λ k. zero_ℚ)) (λ i k. zero_ℚ)) i
    ∙ joined-left M.rows (λ i. joined M.columns (M.coefficient i) (λ k. zero_ℚ)) (λ i k. zero_ℚ) i l

start_splits : (M : LinearProgram) → IsSplit (start M)
start_splits M = record {
  rows = λ m k lm lk o. rows k m lm o;
  columns = λ m k lm lk o. columns k lk o m lm;
  prices = at_or_from (λ k. (start M).basic k ≡ true → (start M).prices k ≡ zero_ℚ) M.columns M.rows
      (λ k l o. absurd (true≢false (sym o ∙ column_other M k l)))
      (λ i l o. joined-right M.columns M.costs (λ i. zero_ℚ) i);
}
  where
    rows : (k : ℕ) → (m : ℕ) → m < variables M → (start M).basic m ≡ false → (start M).table m k ≡ zero_ℚ
    rows k = at_or_from (λ m. (start M).basic m ≡ false → (start M).table m k ≡ zero_ℚ) M.columns M.rows
        (λ m l o. ap (λ (r : Vector). r k) (column_row M m l))
        (λ i l o. absurd (true≢false (sym (row_basic M i l) ∙ o)))

    empty : (k : ℕ) → (m : ℕ) → m < variables M → (start M).table m (M.columns + k) ≡ zero_ℚ
    empty k = at_or_from (λ m. (start M).table m (M.columns + k) ≡ zero_ℚ) M.columns M.rows
        (λ m l. ap (λ (r : Vector). r (M.columns + k)) (column_row M m l))
        (λ i l. ap (λ (r : Vector). r (M.columns + k)) (row_row M i l) ∙ joined-right M.columns (M.coefficient i) (λ k. zero_ℚ) k)

    columns : (k : ℕ) → k < variables M → (start M).basic k ≡ true → (m : ℕ) → m < variables M → (start M).table m k ≡ zero_ℚ
    columns = at_or_from (λ k. (start M).basic k ≡ true → (m : ℕ) → m < variables M → (start M).table m k ≡ zero_ℚ) M.columns M.rows
        (λ k l o. absurd (true≢false (sym o ∙ column_other M k l)))
        (λ i l o. empty i)

-- a sum with a row that ends with zeros
front_sum : (n m : ℕ) (a x : Vector) → total (n + m) (λ k. joined n a (λ i. zero_ℚ) k *ℚ x k) ≡ total n (λ k. a k *ℚ x k)
front_sum n m a x =
    total_front n m (λ k. joined n a (λ i. zero_ℚ) k *ℚ x k)
    (λ i l. ap (λ z. z *ℚ x (n + i)) (joined-right n a (λ i. zero_ℚ) i) ∙ ring rational (x (n + i) ∷ []) (num (pos 0) :* v 0) (num (pos 0)) refl)
    ∙ total_same n (λ k. joined n a (λ i. zero_ℚ) k *ℚ x k) (λ k. a k *ℚ x k) (λ k l. ap (λ z. z *ℚ x k) (joined-left n a (λ i. zero_ℚ) k l))

row_sum : (M : LinearProgram) (i : ℕ) (x : Vector) → i < M.rows → total (variables M) (λ k. (start M).table (M.columns + i) k *ℚ x k) ≡ value_at M i x
row_sum M i x l = ap (λ (r : Vector). total (variables M) (λ k. r k *ℚ x k)) (row_row M i l) ∙ front_sum M.columns M.rows (M.coefficient i) x

start_points : (M : LinearProgram) (x : Vector) → IsExtended M x → Solves (start M) x
start_points M x h = at_or_from (λ m. (start M).basic m ≡ true → x m ≡ total (variables M) (λ k. (start M).table m k *ℚ x k)) M.columns M.rows
    (λ m l o. absurd (true≢false (sym o ∙ column_other M m l)))
    (λ i l o. h i l ∙ sym (row_sum M i x l))

start_points_back : (M : LinearProgram) (x : Vector) → Solves (start M) x → IsExtended M x
start_points_back M x s i l = let k : M.columns + i < variables M = omega arith in s (M.columns + i) k (row_basic M i l) ∙ row_sum M i x l

abbrev row_values : LinearProgram → Vector
row_values M = joined M.rows (λ i. value_at M i (start_point M)) (λ i. zero_ℚ)

start_values : (M : LinearProgram) → IsExtended M (start M).values
start_values M i l =
    joined-right M.columns (start_point M) (row_values M) i
    ∙ joined-left M.rows (λ i. value_at M i (start_point M)) (λ i. zero_ℚ) i l
    ∙ total_same M.columns (λ j. M.coefficient i j *ℚ start_point M j) (λ j. M.coefficient i j *ℚ (start M).values j)
    (λ j k. ap (λ z. M.coefficient i j *ℚ z) (sym (joined-left M.columns (start_point M) (row_values M) j k)))

resting_rests : (l u : Option Number) → Rests l u (resting l u)
resting_rests None None = tt
resting_rests None (Some u) = refl
resting_rests (Some l) None = refl
resting_rests (Some l) (Some u) = inl refl

pub start_is_tableau : (M : LinearProgram) → IsTableau M (start M)
start_is_tableau M = record {
  size = refl;
  split = start_splits M;
  points = λ x. (start_points M x, start_points_back M x);
  costs = λ x h. front_sum M.columns M.rows M.costs x;
  values = start_points M (start M).values (start_values M);
  rests = at_or_from (λ k. (start M).basic k ≡ false → Rests (lower_end M k) (upper_end M k) ((start M).values k)) M.columns M.rows
      (λ k l o. subst (λ z. Rests (lower_end M k) (upper_end M k) z) (sym (joined-left M.columns (start_point M) (row_values M) k l))
      (subst (λ z. Rests z (upper_end M k) (start_point M k)) (sym (joined-left M.columns M.lower_bound M.lower_side k l))
      (subst (λ z. Rests (M.lower_bound k) z (start_point M k)) (sym (joined-left M.columns M.upper_bound M.upper_side k l))
      (resting_rests (M.lower_bound k) (M.upper_bound k)))))
      (λ i l o. absurd (true≢false (sym (row_basic M i l) ∙ o)));
}
