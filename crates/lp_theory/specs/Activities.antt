-- The least and the greatest value of a row within the bounds of its columns; none where there is no end.
use Rattle.std.specs.Prelude.{ℕ, zero, suc, ◌<◌, if◌then◌else◌, Option, Some}
use Rattle.fractions.specs.Number.{Number, zero_ℚ}
use Rattle.fractions.specs.Compare.{lt_ℚ}
use Rattle.fractions.specs.Total.{put}
use Rattle.fractions.specs.Ends.{Between, plus, scaled}
use Rattle.lp_model.specs.Vectors.{Vector}
use Rattle.lp_model.specs.LinearProgram.{LinearProgram}

-- the sum of ends, none as soon as one is
unfoldable pub total_ends : ℕ → (ℕ → Option Number) → Option Number
total_ends zero f = Some zero_ℚ
total_ends (suc n) f = plus (total_ends n f) (f n)

-- the least of a times x for x from l to u, and the greatest
unfoldable pub least_term : Number → Option Number → Option Number → Option Number
least_term a l u = if lt_ℚ zero_ℚ a then scaled a l else if lt_ℚ a zero_ℚ then scaled a u else Some zero_ℚ

abbrev pub greatest_term : Number → Option Number → Option Number → Option Number
greatest_term a l u = least_term a u l

abbrev pub least_terms : LinearProgram → ℕ → ℕ → Option Number
least_terms M i k = least_term (M.coefficient i k) (M.lower_bound k) (M.upper_bound k)

abbrev pub greatest_terms : LinearProgram → ℕ → ℕ → Option Number
greatest_terms M i k = greatest_term (M.coefficient i k) (M.lower_bound k) (M.upper_bound k)

-- the least and the greatest activity of row i
abbrev pub least : LinearProgram → ℕ → Option Number
least M i = total_ends M.columns (least_terms M i)

abbrev pub greatest : LinearProgram → ℕ → Option Number
greatest M i = total_ends M.columns (greatest_terms M i)

-- the same with column j left out
abbrev pub least_rest : LinearProgram → ℕ → ℕ → Option Number
least_rest M i j = total_ends M.columns (put (least_terms M i) j (Some zero_ℚ))

abbrev pub greatest_rest : LinearProgram → ℕ → ℕ → Option Number
greatest_rest M i j = total_ends M.columns (put (greatest_terms M i) j (Some zero_ℚ))

-- each number lies between its column's bounds
abbrev pub InBounds : LinearProgram → Vector → Type 0
InBounds M x = (j : ℕ) → j < M.columns → Between (M.lower_bound j) (M.upper_bound j) (x j)
