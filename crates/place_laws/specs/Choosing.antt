-- Ids of rows and columns to be looked at, and the instances there.
use Rattle.std.specs.Prelude.{◌≡◌, ◌⊎◌, ℕ, true, List, [], ◌∷◌, ◌++◌, length, map}
use Rattle.std.specs.List.{Contains, filter, flat_map, range_with_len}
use Rattle.fractions.specs.declared.Numbers.{Numbers}
use Rattle.lp_model.specs.Sparse.{has}
use Rattle.problem_model.specs.declared.part.Part.{Part}
use Rattle.problem_model.specs.declared.part.Part.TheVariants as part
use Rattle.problem_model.specs.Problems.{column_entries, row_entries}
use Rattle.problem_model.specs.Sparse.{Sparse}
use Rattle.parallel_laws.specs.ParallelColumns as parallel_columns
use Rattle.parallel_laws.specs.ParallelRows as parallel_rows
use Rattle.sorted_ids.specs.Ascending.{AscendsFrom}
use Rattle.presolve_model.specs.declared.instance.Instance.{Instance}
use Rattle.presolve_model.specs.declared.instance.Reach.{Reach}
use Rattle.presolve_model.specs.declared.instance.Reach.TheVariants.{OwnRow, OwnColumn, RowsOfBounds, ColumnsOfSides, RowsOfBoth, SoleColumns, RowsBeside, ColumnsBeside}
use Rattle.presolve_model.specs.declared.instance.Rule.{Rule}
use Rattle.presolve_model.specs.Enabled.{enabled_on}
use Rattle.presolve_model.specs.Given.{Proposed}
use Rattle.presolve_model.specs.Instances.{id_at, is_open, rule_at, reach_of}
use Rattle.presolve_model.specs.Tallies.{Open}
use Rattle.presolve_model.specs.Order.{reduction_order, verdict_order}
use Rattle.presolve_model.specs.Scans.{instances_at, proposal_of}
use Rattle.place_laws.specs.Marks.{IsAsleep, Marks, parts_for}

-- ids of rows and of columns
pub record Places : Type 0 where
  pub rows : List ℕ
  pub columns : List ℕ

-- where rules are looked for, by their reach
pub record Around : Type 0 where
  pub own : Places
  pub rows_of_bounds : List ℕ
  pub columns_of_sides : List ℕ
  pub rows_of_both : List ℕ
  pub sole_columns : List ℕ
  pub rows_beside : List ℕ
  pub columns_beside : List ℕ

abbrev pub within : Around → Reach → List ℕ
within n OwnRow = n.own.rows
within n OwnColumn = n.own.columns
within n RowsOfBounds = n.rows_of_bounds
within n ColumnsOfSides = n.columns_of_sides
within n RowsOfBoth = n.rows_of_both
within n SoleColumns = n.sole_columns
within n RowsBeside = n.rows_beside
within n ColumnsBeside = n.columns_beside

-- the first ids of a rule among them
abbrev pub ids_of : Around → Rule → List ℕ
ids_of n rule = within n (reach_of rule)

-- all of a problem
abbrev pub all_places : Sparse → Places
all_places p = record { rows = range_with_len 0 (length p.matrix.rows); columns = range_with_len 0 (length p.matrix.columns) }

abbrev pub all_around : Sparse → Around
all_around p = record {
  own = all_places p;
  rows_of_bounds = (all_places p).rows;
  columns_of_sides = (all_places p).columns;
  rows_of_both = (all_places p).rows;
  sole_columns = (all_places p).columns;
  rows_beside = (all_places p).rows;
  columns_beside = (all_places p).columns;
}

-- the row or the column of a part
abbrev pub rows_with : Part → List ℕ
rows_with (part.Row i) = i ∷ []
rows_with (part.Sides i) = i ∷ []
rows_with (part.Col j) = []
rows_with (part.Bounds j) = []

abbrev pub columns_with : Part → List ℕ
columns_with (part.Row i) = []
columns_with (part.Sides i) = []
columns_with (part.Col j) = j ∷ []
columns_with (part.Bounds j) = j ∷ []

-- the rows and columns of parts are among them
pub record HoldsParts (parts : List Part) (n : Places) : Type 0 where
  pub rows : (a : Part) (i : ℕ) → Contains parts a → Contains (rows_with a) i → Contains n.rows i
  pub columns : (a : Part) (j : ℕ) → Contains parts a → Contains (columns_with a) j → Contains n.columns j

-- the row whose sides it is, and the column whose bounds it is
abbrev pub sides_with : Part → List ℕ
sides_with (part.Sides i) = i ∷ []
sides_with (part.Row i) = []
sides_with (part.Col j) = []
sides_with (part.Bounds j) = []

abbrev pub bounds_with : Part → List ℕ
bounds_with (part.Bounds j) = j ∷ []
bounds_with (part.Row i) = []
bounds_with (part.Sides i) = []
bounds_with (part.Col j) = []

-- row k is one in which a column stands that is among these; column k is one that stands in a row among these
abbrev pub StandsIn : Sparse → List ℕ → ℕ → Type 0
StandsIn p js k = (j : ℕ) × Contains js j × (has k (column_entries p j) ≡ true)

abbrev pub StandsOn : Sparse → List ℕ → ℕ → Type 0
StandsOn p is k = (i : ℕ) × Contains is i × (has k (row_entries p i) ≡ true)

-- a part leads to row i: its own, or one in which the column stands whose bounds it is
abbrev pub LeadsToRow : Sparse → Part → ℕ → Type 0
LeadsToRow p a i = Contains (rows_with a) i ⊎ StandsIn p (bounds_with a) i

-- a part leads to row or column k: the first id of what reads it may be there
abbrev pub Leads : Sparse → Reach → Part → ℕ → Type 0
Leads p OwnRow a k = Contains (rows_with a) k
Leads p OwnColumn a k = Contains (columns_with a) k
Leads p RowsOfBounds a k = LeadsToRow p a k
Leads p ColumnsOfSides a k = Contains (columns_with a) k ⊎ StandsOn p (sides_with a) k
Leads p RowsOfBoth a k = Contains (rows_with a) k ⊎ ((j : ℕ) × (Contains (columns_with a) j ⊎ StandsOn p (sides_with a) j) × (has k (column_entries p j) ≡ true))
Leads p RowsBeside a k = Contains (rows_with a) k ⊎ ((i : ℕ) × Contains (rows_with a) i × (parallel_rows.enabled p k i ≡ true))
Leads p ColumnsBeside a k = Contains (columns_with a) k ⊎ ((j : ℕ) × Contains (columns_with a) j × (parallel_columns.enabled p k j ≡ true))
Leads p SoleColumns a k = (length (column_entries p k) ≡ 1) × (Contains (columns_with a) k ⊎ ((i : ℕ) × LeadsToRow p a i × (has k (row_entries p i) ≡ true)))

-- what parts lead to is among these
abbrev pub HoldsLed : Sparse → Reach → List Part → List ℕ → Type 0
HoldsLed p r parts ids = (a : Part) (k : ℕ) → Contains parts a → Leads p r a k → Contains ids k

-- what the parts that count lead to is there
abbrev pub HoldsAround : Sparse → Marks → Around → Type 0
HoldsAround p m n = (r : Reach) → HoldsLed p r (parts_for m r) (within n r)

pub record IsSorted (n : Places) : Type 0 where
  pub rows : AscendsFrom 0 n.rows
  pub columns : AscendsFrom 0 n.columns

pub record AreSorted (n : Around) : Type 0 where
  pub own : IsSorted n.own
  pub rows_of_bounds : AscendsFrom 0 n.rows_of_bounds
  pub columns_of_sides : AscendsFrom 0 n.columns_of_sides
  pub rows_of_both : AscendsFrom 0 n.rows_of_both
  pub sole_columns : AscendsFrom 0 n.sole_columns
  pub rows_beside : AscendsFrom 0 n.rows_beside
  pub columns_beside : AscendsFrom 0 n.columns_beside

-- each enabled instance that is open has its first id there
abbrev pub HasEach : Open → Sparse → Around → Type 0
HasEach opens p n = (e : Instance) → enabled_on p e ≡ true → is_open opens e ≡ true → Contains (ids_of n (rule_at e)) (id_at e)

-- each enabled instance that is open has its first id there, or sleeps
abbrev pub IsComplete : Numbers → Open → Sparse → Around → List Part → Type 0
IsComplete numbers opens p n asleep = (e : Instance) → enabled_on p e ≡ true → is_open opens e ≡ true → Contains (ids_of n (rule_at e)) (id_at e) ⊎ IsAsleep numbers p asleep e

-- the instances of rules there that are open, in their order
abbrev pub instances_of : Open → Sparse → Around → List Rule → List Instance
instances_of opens p n rules = flat_map (λ rule. instances_at opens p rule (ids_of n rule)) rules

-- of all rules, verdicts first
abbrev pub visited : Open → Sparse → Around → List Instance
visited opens p n = instances_of opens p n verdict_order ++ instances_of opens p n reduction_order

-- those of some instances that are enabled on p, each with its reading
abbrev pub proposals : Sparse → ℕ → List Instance → List Proposed
proposals p version es = map (proposal_of p version) (filter (enabled_on p) es)
