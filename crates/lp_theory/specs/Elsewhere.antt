-- A column that is put elsewhere: into another column, by an equation of the two, or into the one row that holds it.
use Rattle.std.specs.Prelude.{◌≡◌, ◌≢◌, ℕ, ◌<◌, false, None}
use Rattle.fractions.specs.Number.{Number, zero_ℚ, ◌-ℚ◌, ◌*ℚ◌}
use Rattle.fractions.specs.Division.{◌/ℚ◌}
use Rattle.fractions.specs.Total.{total, put}
use Rattle.lp_model.specs.Vectors.{Vector}
use Rattle.lp_model.specs.LinearProgram.{LinearProgram}
use Rattle.lp_theory.specs.Dropped.{column_dropped}

-- the sum of the products of a and x below n
abbrev pub products : ℕ → Vector → Vector → Number
products n a x = total n (λ k. a k *ℚ x k)

-- the numbers of the columns where e - q x_k stands for x_j: what stood at j is gone, and q times it leaves that at k
abbrev pub substituted : Vector → ℕ → ℕ → Number → Vector
substituted f j k q = put (put f j zero_ℚ) k (f k -ℚ f j *ℚ q)

-- column j is continuous and has one entry, in row i
pub record IsColumnSingleton (M : LinearProgram) (j i : ℕ) : Type 0 where
  pub row : i < M.rows
  pub column : j < M.columns
  pub entry : M.coefficient i j ≢ zero_ℚ
  pub only : (m : ℕ) → m < M.rows → m ≢ i → M.coefficient m j ≡ zero_ℚ
  pub continuous : M.whole j ≡ false
  pub solid : M.gap j ≡ None

-- column j put into row i, the one that holds it: the column is dropped, and its cost over its entry, times the row, leaves the
-- other costs
abbrev pub column_put_into_row : LinearProgram → ℕ → ℕ → LinearProgram
column_put_into_row M j i = record (column_dropped M j) { costs = put (λ k. M.costs k -ℚ (M.costs j /ℚ M.coefficient i j) *ℚ M.coefficient i k) j zero_ℚ }
