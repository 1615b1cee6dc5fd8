-- Steps by which groups are made.
use Rattle.std.specs.Prelude.{◌≡◌, ◌≢◌, ◌⊎◌, ℕ, nat_eq, position, List, [], ◌∷◌, length, slice_index_or, Option, Some}
use Rattle.std.specs.List.{Contains}
use Rattle.problem_model.specs.declared.part.Part.{Part}
use Rattle.problem_model.specs.declared.part.Part.TheVariants as part
use Rattle.problem_model.specs.Sparse.{Sparse}
use Rattle.line_groups.specs.declared.groups.Kind.{Kind}
use Rattle.line_groups.specs.declared.groups.Kind.TheVariants.{Rows, Columns}
use Rattle.sorted_ids.specs.Ascending.{AscendsFrom}
use Rattle.line_groups.specs.Groups.{Grouped, IsGrouping, IsTable, StandsUnder}
use Rattle.line_groups.specs.Keys.{key_at}

-- the part with a line's entries
abbrev pub part_of : Kind → ℕ → Part
part_of Rows i = part.Row i
part_of Columns j = part.Col j

-- the line of such a part
abbrev pub lines_in : Kind → Part → List ℕ
lines_in Rows (part.Row i) = i ∷ []
lines_in Rows (part.Sides i) = []
lines_in Rows (part.Col j) = []
lines_in Rows (part.Bounds j) = []
lines_in Columns (part.Row i) = []
lines_in Columns (part.Sides i) = []
lines_in Columns (part.Col j) = j ∷ []
lines_in Columns (part.Bounds j) = []

-- how many lines there are
abbrev pub count_in : Kind → Sparse → ℕ
count_in Rows p = length p.matrix.rows
count_in Columns p = length p.matrix.columns

-- the key of a line
abbrev pub key_by : Sparse → Kind → ℕ → Option ℕ
key_by p kind i = key_at p (part_of kind i)

-- all lines of a kind stand in their groups
abbrev pub AreOf : Sparse → Kind → Grouped → Type 0
AreOf p kind g = IsGrouping g (count_in kind p) (key_by p kind)

-- an id is in list n, and ids are where they were
pub record Puts (old new : List (List ℕ)) (n i : ℕ) : Type 0 where
  pub long : length new ≡ length old
  pub there : Contains (slice_index_or new n []) i
  pub kept : (m k : ℕ) → Contains (slice_index_or old m []) k → Contains (slice_index_or new m []) k
  pub ascends : ((m : ℕ) → AscendsFrom 0 (slice_index_or old m [])) → (m : ℕ) → AscendsFrom 0 (slice_index_or new m [])

-- there is a group with a key, and lines stand as they did
pub record HasGroup (old new : Grouped) (count key n : ℕ) : Type 0 where
  pub table : IsTable new count
  pub there : position (nat_eq key) new.keys ≡ Some n
  pub kept : (k m : ℕ) → StandsUnder old m k → StandsUnder new m k

-- line i stands in the group with a key, and the others as they did
pub record Adds (old new : Grouped) (count key i : ℕ) : Type 0 where
  pub table : IsTable new count
  pub there : StandsUnder new key i
  pub kept : (k m : ℕ) → k ≢ i → StandsUnder old m k → StandsUnder new m k

-- line i stands in its group if it has a key, and so does each that did
pub record Renews (old new : Grouped) (count : ℕ) (key : ℕ → Option ℕ) (i : ℕ) : Type 0 where
  pub table : IsTable new count
  pub kept : (k m : ℕ) → key k ≡ Some m → StandsUnder old m k ⊎ (k ≡ i) → StandsUnder new m k

-- the same of some lines
pub record RenewsLines (old new : Grouped) (p : Sparse) (kind : Kind) (lines : List ℕ) : Type 0 where
  pub table : IsTable new (count_in kind p)
  pub kept : (k m : ℕ) → key_by p kind k ≡ Some m → StandsUnder old m k ⊎ Contains lines k → StandsUnder new m k
