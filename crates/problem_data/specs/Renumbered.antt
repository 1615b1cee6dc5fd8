-- One part's number of changes, set.
use Rattle.std.specs.Prelude.{ℕ, nat_eq, ◌<◌, Bool, false, length, if◌then◌else◌}
use Rattle.problem_model.specs.declared.part.Part.{Part}
use Rattle.problem_model.specs.declared.part.Part.TheVariants as part
use Rattle.problem_model.specs.Parts.{changes_of}
use Rattle.problem_model.specs.Raised.{numbered}
use Rattle.problem_model.specs.Sparse.{Sparse}
use Rattle.problem_model.specs.Touching.{is_sides_of, is_bounds_of, is_column}

abbrev pub is_row : ℕ → Part → Bool
is_row i (part.Row k) = nat_eq k i
is_row i (part.Sides k) = false
is_row i (part.Col j) = false
is_row i (part.Bounds j) = false

abbrev pub same_part : Part → Part → Bool
same_part (part.Row i) b = is_row i b
same_part (part.Sides i) b = is_sides_of i b
same_part (part.Col j) b = is_column j b
same_part (part.Bounds j) b = is_bounds_of j b

-- the numbers of p, but n for the part a
abbrev pub number_put : Sparse → Part → ℕ → Part → ℕ
number_put p a n b = if same_part a b then n else changes_of p b

abbrev pub changes_put : Sparse → Part → ℕ → Sparse
changes_put p a n = numbered p (number_put p a n)

-- the part is one of the problem's, deleted or not
abbrev pub IsThere : Sparse → Part → Type 0
IsThere p (part.Row i) = i < length p.matrix.rows
IsThere p (part.Sides i) = i < length p.sides
IsThere p (part.Col j) = j < length p.matrix.columns
IsThere p (part.Bounds j) = j < length p.bounds
