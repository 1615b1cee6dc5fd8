-- K15: of two rows of which one is s times the other, the other takes over its sides.
use Rattle.std.specs.Prelude.{◌≡◌, ◌≢◌, ℕ, ◌<◌, if◌then◌else◌, Option}
use Rattle.fractions.specs.Number.{Number, zero_ℚ, ◌*ℚ◌}
use Rattle.fractions.specs.Division.{◌/ℚ◌}
use Rattle.fractions.specs.Total.{total, put}
use Rattle.fractions.specs.Ends.{meet_low, meet_high}
use Rattle.lp_model.specs.Vectors.{Vector}
use Rattle.lp_model.specs.LinearProgram.{LinearProgram}
use Rattle.lp_model.specs.Reductions.{Priced}
use Rattle.lp_model.specs.Edits.{without_row, with_sides}
use Rattle.lp_theory.specs.MetEnds.{lower_over, upper_over, is_from_row}

-- enabled at rows i and k: row i is s times row k; that they have an entry only the scan asks
pub record AreParallelRows (M : LinearProgram) (i k : ℕ) (s : Number) : Type 0 where
  pub row : i < M.rows
  pub other : k < M.rows
  pub apart : i ≢ k
  pub factor : s ≢ zero_ℚ
  pub times : (j : ℕ) → j < M.columns → M.coefficient i j ≡ s *ℚ M.coefficient k j

-- the sides of row k met with those of row i over s
abbrev pub shared_lower : LinearProgram → ℕ → ℕ → Number → Option Number
shared_lower M i k s = meet_low (M.lower_side k) (lower_over s (M.lower_side i) (M.upper_side i))

abbrev pub shared_upper : LinearProgram → ℕ → ℕ → Number → Option Number
shared_upper M i k s = meet_high (M.upper_side k) (upper_over s (M.lower_side i) (M.upper_side i))

-- row k has these sides, and row i is deleted
abbrev pub parallel_rows_joined : LinearProgram → ℕ → ℕ → Number → LinearProgram
parallel_rows_joined M i k s = without_row (with_sides M k (shared_lower M i k s) (shared_upper M i k s)) i

-- where the side at which row k holds y_k came from row i, y_i = y_k / s and y_k = 0, else y_i = 0; the point stays. L and U are the
-- old sides of row k, a its entries, n the number of columns.
abbrev pub undo_parallel_rows : ℕ → ℕ → ℕ → Number → Option Number → Option Number → Vector → Priced → Priced
undo_parallel_rows n i k s L U a p =
    if is_from_row L U (total n (λ j. a j *ℚ p.x j)) (p.y k)
    then record p { y = put (put p.y k zero_ℚ) i (p.y k /ℚ s) }
    else record p { y = put p.y i zero_ℚ }
