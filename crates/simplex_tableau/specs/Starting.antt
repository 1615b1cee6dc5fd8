-- The first tableau as it is made, place by place.
use Rattle.std.specs.Prelude.{◌≡◌, ℕ, ◌+◌, ◌<◌, ◌≤◌, List, length, slice_index_or}
use Rattle.fractions.specs.Number.{Number, zero_ℚ}
use Rattle.lp_model.specs.Vectors.{Vector, vector_of}
use Rattle.lp_model.specs.LinearProgram.{LinearProgram}
use Rattle.lp_model.specs.ProgramData.{ProgramData}
use Rattle.lp_model.specs.Room.{ValueFits}
use Rattle.lp_model.specs.Meaning.{column_at}
use Rattle.lp_model.specs.Turning.{signed}
use Rattle.tableau_laws.specs.Variables.{joined, variables}
use Rattle.tableau_laws.specs.Tableaus.{start, start_point}

-- a list of n, with P at each place
pub record Lists {A : Type 0} (d : A) (P : ℕ → A → Type 0) (n : ℕ) (xs : List A) : Type 0 where
  pub long : length xs ≡ n
  pub each : (k : ℕ) → k < n → P k (slice_index_or xs k d)

-- the row of variable k: none for a column's, a number for each variable for a row's
pub record IsFirstRow (M : LinearProgram) (k : ℕ) (row : List Number) : Type 0 where
  pub numbers : (j : ℕ) → vector_of row j ≡ (start M).table k j
  pub empty : k < M.columns → length row ≡ 0
  pub long : M.columns ≤ k → length row ≡ variables M

-- the prices: the columns' costs, as they are minimized, and 0 for each row
abbrev pub first_prices : ProgramData → Vector
first_prices p = joined (length p.columns) (λ j. signed p.sense (column_at p j).cost) (λ i. zero_ℚ)

-- the value of variable k has room: it is a column's, or the sum of its row has
abbrev pub FirstFits : LinearProgram → ℕ → Type 0
FirstFits M k = (i : ℕ) → k ≡ M.columns + i → ValueFits M i (start_point M)
