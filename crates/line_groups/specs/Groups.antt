-- Rows and columns in groups.
use Rattle.std.specs.Prelude.{◌≡◌, ℕ, List, [], ◌∷◌, length, nat_eq, position, slice_index_or, Option, Some}
use Rattle.std.specs.List.{Contains}
use Rattle.problem_model.specs.declared.part.Part.TheVariants as part
use Rattle.problem_model.specs.Sparse.{Sparse}
use Rattle.sorted_ids.specs.Ascending.{AscendsFrom}
use Rattle.line_groups.specs.Keys.{key_at}

-- the keys of the groups, the number of each line's group, and the ids in each group
pub record Grouped : Type 0 where
  pub keys : List ℕ
  pub numbers : List ℕ
  pub groups : List (List ℕ)

abbrev pub ids_in : Grouped → ℕ → List ℕ
ids_in g n = slice_index_or g.groups n []

abbrev pub number_at : Grouped → ℕ → ℕ
number_at g i = slice_index_or g.numbers i 0

-- the group of a line
abbrev pub group_at : Grouped → ℕ → List ℕ
group_at g i = ids_in g (number_at g i)

-- the id in the group of a line, if it is alone there; the number of the group, if there are more
abbrev pub alone : List ℕ → List ℕ
alone [] = []
alone (i ∷ []) = i ∷ []
alone (i ∷ k ∷ is) = []

abbrev pub if_more : List ℕ → ℕ → List ℕ
if_more [] n = []
if_more (i ∷ []) n = []
if_more (i ∷ k ∷ is) n = n ∷ []

abbrev pub lone_at : Grouped → ℕ → List ℕ
lone_at g i = alone (group_at g i)

abbrev pub many_at : Grouped → ℕ → List ℕ
many_at g i = if_more (group_at g i) (number_at g i)

-- line i stands in the group that has this key
pub record StandsUnder (g : Grouped) (key i : ℕ) : Type 0 where
  pub number : position (nat_eq key) g.keys ≡ Some (number_at g i)
  pub among : Contains (group_at g i) i

-- groups of so many lines, one for each key
pub record IsTable (g : Grouped) (count : ℕ) : Type 0 where
  pub long : length g.numbers ≡ count
  pub paired : length g.groups ≡ length g.keys
  pub ascends : (n : ℕ) → AscendsFrom 0 (ids_in g n)

-- each line that has a key stands in its group
pub record IsGrouping (g : Grouped) (count : ℕ) (key : ℕ → Option ℕ) : Type 0 where
  pub table : IsTable g count
  pub each : (i h : ℕ) → key i ≡ Some h → StandsUnder g h i

-- rows, and columns
pub record LineGroups : Type 0 where
  pub rows : Grouped
  pub columns : Grouped

-- those of a problem
pub record AreGrouped (t : LineGroups) (p : Sparse) : Type 0 where
  pub rows : IsGrouping t.rows (length p.matrix.rows) (λ i. key_at p (part.Row i))
  pub columns : IsGrouping t.columns (length p.matrix.columns) (λ j. key_at p (part.Col j))

unfoldable pub AreGroupsOf : LineGroups → Sparse → Type 0
AreGroupsOf t p = AreGrouped t p
