-- Rows and columns of a problem by their ids.
use Rattle.std.specs.Prelude.{◌≡◌, ℕ, ◌<◌, ◌^◌, false, List, [], ◌∷◌, length, slice_index_or, None}
use Rattle.fractions.specs.Number.{Number, zero_ℚ}
use Rattle.lp_model.specs.declared.terms.Term.{Term}
use Rattle.lp_model.specs.Sparse.{no_term}
use Rattle.problem_model.specs.declared.line.Line.{Line}
use Rattle.problem_model.specs.declared.line.Sides.{Sides}
use Rattle.problem_model.specs.declared.line.Bounds.{Bounds}
use Rattle.problem_model.specs.Matrices.{IsMatrix, line_at, live_only}
use Rattle.problem_model.specs.Sparse.{Sparse}

abbrev pub no_sides : Sides
no_sides = record { lower = None; upper = None; changes = 0 }

abbrev pub no_bounds : Bounds
no_bounds = record { lower = None; upper = None; whole = false; semi = false; changes = 0 }

-- a row by its id; past the last it is not live
abbrev pub row_at : Sparse → ℕ → Line
row_at p i = line_at p.matrix.rows i

abbrev pub column_at : Sparse → ℕ → Line
column_at p j = line_at p.matrix.columns j

abbrev pub sides_at : Sparse → ℕ → Sides
sides_at p i = slice_index_or p.sides i no_sides

abbrev pub bounds_at : Sparse → ℕ → Bounds
bounds_at p j = slice_index_or p.bounds j no_bounds

abbrev pub cost_at : Sparse → ℕ → Number
cost_at p j = slice_index_or p.costs j zero_ℚ

-- the entries of a row in live columns, and those of a column in live rows
abbrev pub row_entries : Sparse → ℕ → List Term
row_entries p i = live_only p.matrix.columns (row_at p i).entries

abbrev pub column_entries : Sparse → ℕ → List Term
column_entries p j = live_only p.matrix.rows (column_at p j).entries

-- the first of terms
abbrev pub first_of : List Term → Term
first_of [] = no_term
first_of (t ∷ ts) = t

-- each row has sides, each column bounds and a cost, and ids have 32 bits
pub record IsSparse (p : Sparse) : Type 0 where
  pub matrix : IsMatrix p.matrix
  pub few_rows : length p.matrix.rows < 2 ^ 32
  pub few_columns : length p.matrix.columns < 2 ^ 32
  pub sides : length p.sides ≡ length p.matrix.rows
  pub bounds : length p.bounds ≡ length p.matrix.columns
  pub costs : length p.costs ≡ length p.matrix.columns
