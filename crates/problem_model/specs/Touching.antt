-- Which parts edits may change. What they do not touch holds the same.
use Rattle.std.specs.Prelude.{ℕ, nat_eq, Bool, false, ◌||◌, List, [], ◌∷◌, ◌++◌, map}
use Rattle.lp_model.specs.Sparse.{has}
use Rattle.lp_model.specs.declared.terms.Term.{Term}
use Rattle.problem_model.specs.declared.part.Part.{Part}
use Rattle.problem_model.specs.declared.part.Part.TheVariants as part
use Rattle.problem_model.specs.Problems.{row_at, column_at}
use Rattle.problem_model.specs.Sparse.{Sparse}
use Rattle.problem_model.specs.declared.edit.Edit.{Edit}
use Rattle.problem_model.specs.declared.edit.Edit.TheVariants.{DeleteRow, DeleteColumn, SetSides, SetBounds, AddOffset, SetCost, SetEntry}
use Rattle.problem_model.specs.Applied.{edited}

-- a deleted row: the row, its sides, the columns with an entry there
abbrev pub row_touches : Sparse → ℕ → Part → Bool
row_touches p i (part.Row k) = nat_eq k i
row_touches p i (part.Sides k) = nat_eq k i
row_touches p i (part.Col j) = has i (column_at p j).entries
row_touches p i (part.Bounds j) = false

abbrev pub column_touches : Sparse → ℕ → Part → Bool
column_touches p j (part.Row i) = has j (row_at p i).entries
column_touches p j (part.Sides i) = false
column_touches p j (part.Col k) = nat_eq k j
column_touches p j (part.Bounds k) = nat_eq k j

abbrev pub is_sides_of : ℕ → Part → Bool
is_sides_of i (part.Row k) = false
is_sides_of i (part.Sides k) = nat_eq k i
is_sides_of i (part.Col j) = false
is_sides_of i (part.Bounds j) = false

abbrev pub is_bounds_of : ℕ → Part → Bool
is_bounds_of j (part.Row i) = false
is_bounds_of j (part.Sides i) = false
is_bounds_of j (part.Col k) = false
is_bounds_of j (part.Bounds k) = nat_eq k j

abbrev pub is_column : ℕ → Part → Bool
is_column j (part.Row i) = false
is_column j (part.Sides i) = false
is_column j (part.Col k) = nat_eq k j
is_column j (part.Bounds k) = false

-- the row and the column that cross
abbrev pub crosses : ℕ → ℕ → Part → Bool
crosses i j (part.Row k) = nat_eq k i
crosses i j (part.Sides k) = false
crosses i j (part.Col k) = nat_eq k j
crosses i j (part.Bounds k) = false

abbrev pub touches : Sparse → Edit → Part → Bool
touches p (DeleteRow i) a = row_touches p i a
touches p (DeleteColumn j) a = column_touches p j a
touches p (SetSides i l u) a = is_sides_of i a
touches p (SetBounds j l u) a = is_bounds_of j a
touches p (AddOffset k) a = false
touches p (SetCost j c) a = is_column j a
touches p (SetEntry i j v) a = crosses i j a

-- one of the edits does, where its turn comes
abbrev pub touched_by : Sparse → List Edit → Part → Bool
touched_by p [] a = false
touched_by p (e ∷ es) a = touches p e a || touched_by (edited p e) es a

-- the parts that are touched, as a list, read off before the edit
abbrev pub parts_touched : Sparse → Edit → List Part
parts_touched p (DeleteRow i) = part.Row i ∷ part.Sides i ∷ map (λ (t : Term). part.Col t.id) (row_at p i).entries
parts_touched p (DeleteColumn j) = part.Col j ∷ part.Bounds j ∷ map (λ (t : Term). part.Row t.id) (column_at p j).entries
parts_touched p (SetSides i l u) = part.Sides i ∷ []
parts_touched p (SetBounds j l u) = part.Bounds j ∷ []
parts_touched p (AddOffset k) = []
parts_touched p (SetCost j c) = part.Col j ∷ []
parts_touched p (SetEntry i j v) = part.Row i ∷ part.Col j ∷ []

abbrev pub all_touched : Sparse → List Edit → List Part
all_touched p [] = []
all_touched p (e ∷ es) = parts_touched p e ++ all_touched (edited p e) es
