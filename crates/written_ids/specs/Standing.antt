-- A problem without what was deleted: what stands at a live line stands at its new id.
use Rattle.std.specs.Prelude.{◌≡◌, ℕ, true, List, length}
use Rattle.problem_model.specs.declared.line.Line.{Line}
use Rattle.problem_model.specs.Matrices.{line_at}
use Rattle.problem_model.specs.Problems.{bounds_at, column_at, column_entries, cost_at, row_at, row_entries, sides_at}
use Rattle.problem_model.specs.Programs.{live_ids}
use Rattle.problem_model.specs.Sparse.{Sparse}
use Rattle.written_ids.specs.NewIds.{Ids, new_ids, terms_at}

abbrev pub IsLive : List Line → ℕ → Type 0
IsLive lines k = (line_at lines k).live ≡ true

-- live lines with the same new id are the same
abbrev pub IsOneToOne : (ℕ → ℕ) → List Line → Type 0
IsOneToOne f lines = (i k : ℕ) → IsLive lines i → IsLive lines k → f i ≡ f k → i ≡ k

-- live rows with the same new id are the same row, and so are live columns
pub record AreOneToOne (n : Ids) (p : Sparse) : Type 0 where
  pub row : IsOneToOne n.row p.matrix.rows
  pub column : IsOneToOne n.column p.matrix.columns

-- what stands at row i of p stands at its new id in q
pub record RowStands (n : Ids) (p q : Sparse) (i : ℕ) : Type 0 where
  pub live : (row_at q (n.row i)).live ≡ true
  pub entries : row_entries q (n.row i) ≡ terms_at n.column (row_entries p i)
  pub lower : (sides_at q (n.row i)).lower ≡ (sides_at p i).lower
  pub upper : (sides_at q (n.row i)).upper ≡ (sides_at p i).upper

pub record ColumnStands (n : Ids) (p q : Sparse) (j : ℕ) : Type 0 where
  pub live : (column_at q (n.column j)).live ≡ true
  pub entries : column_entries q (n.column j) ≡ terms_at n.row (column_entries p j)
  pub cost : cost_at q (n.column j) ≡ cost_at p j
  pub lower : (bounds_at q (n.column j)).lower ≡ (bounds_at p j).lower
  pub upper : (bounds_at q (n.column j)).upper ≡ (bounds_at p j).upper
  pub whole : (bounds_at q (n.column j)).whole ≡ (bounds_at p j).whole
  pub semi : (bounds_at q (n.column j)).semi ≡ (bounds_at p j).semi

-- each live row and column stands there, and no two at the same place
pub record LinesStand (n : Ids) (p q : Sparse) : Type 0 where
  pub apart : AreOneToOne n p
  pub row : (i : ℕ) → (row_at p i).live ≡ true → RowStands n p q i
  pub column : (j : ℕ) → (column_at p j).live ≡ true → ColumnStands n p q j

-- q is p without what was deleted, and has nothing else
pub record IsLeft (p q : Sparse) : Type 0 where
  pub stands : LinesStand (new_ids p) p q
  pub rows : length q.matrix.rows ≡ length (live_ids p.matrix.rows)
  pub columns : length q.matrix.columns ≡ length (live_ids p.matrix.columns)
  pub offset : q.offset ≡ p.offset
