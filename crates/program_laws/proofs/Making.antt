-- The rows and columns that are written: of all of them, with what they have now, those that are live.
use Rattle.std.proofs.Common.{◌≡◌, ℕ, zero, suc, ◌<◌, List, [], ◌∷◌, length, get_or, slice_index, sym, refl, ap, ◌∙◌, arith}
use Rattle.std.specs.Prelude.{if◌then◌else◌}
use Rattle.fractions.specs.Number.{Number, zero_ℚ}
use Rattle.lp_model.specs.declared.program.Sense.{Sense}
use Rattle.lp_model.specs.declared.program.RowDef.{RowDef}
use Rattle.lp_model.specs.declared.program.ColumnDef.{ColumnDef}
use Rattle.lp_model.specs.Meaning.{no_row, no_column}
use Rattle.lp_model.specs.Names.{names_of_rows, names_of_columns}
use Rattle.lp_model.specs.ProgramData.{ProgramData}
use Rattle.problem_model.specs.declared.line.Line.{Line}
use Rattle.problem_model.specs.declared.line.Sides.{Sides}
use Rattle.problem_model.specs.declared.line.Bounds.{Bounds}
use Rattle.problem_model.specs.Matrices.{no_line}
use Rattle.problem_model.specs.Problems.{no_sides, no_bounds, column_at, sides_at, bounds_at, cost_at, IsSparse}
use Rattle.problem_model.specs.Programs.{written_rows, written_column, written_columns, written_program, live_ids}
use Rattle.problem_model.specs.Sparse.{Sparse}
use Rattle.program_laws.specs.Chosen.{at_live}
use Rattle.program_laws.specs.Shapes.{IsOf}
use Rattle.program_laws.proofs.Choosing.{chosen-at, chosen-length}
use Rattle.program_laws.proofs.Ranks.{id_inside}

-- a row with these sides
abbrev pub row_with : RowDef → Sides → RowDef
row_with r s = record r { lower = s.lower; upper = s.upper }

abbrev pub rows_with : List RowDef → List Sides → List RowDef
rows_with (r ∷ rs) (s ∷ ss) = row_with r s ∷ rows_with rs ss
rows_with rs ss = []

abbrev pub columns_with : Sense → List Line → List ColumnDef → List Line → List Bounds → List Number → List ColumnDef
columns_with sense rows (c ∷ cs) (l ∷ ls) (b ∷ bs) (q ∷ qs) = written_column sense rows c l b q ∷ columns_with sense rows cs ls bs qs
columns_with sense rows cs ls bs qs = []

none_at_live : {A : Type 0} (ls : List Line) → at_live {A = A} ls [] ≡ []
none_at_live [] = refl
none_at_live (l ∷ ls) = refl

pub written_rows-chosen : (rs : List RowDef) (ls : List Line) (ss : List Sides) → written_rows rs ls ss ≡ at_live ls (rows_with rs ss)
written_rows-chosen [] ls ss = sym (none_at_live ls)
written_rows-chosen (r ∷ rs) [] ss = refl
written_rows-chosen (r ∷ rs) (l ∷ ls) [] = refl
written_rows-chosen (r ∷ rs) (l ∷ ls) (s ∷ ss) = ap (λ (ws : List RowDef). if l.live then row_with r s ∷ ws else ws) (written_rows-chosen rs ls ss)

pub written_columns-chosen : (sense : Sense) (rows : List Line) (cs : List ColumnDef) (ls : List Line) (bs : List Bounds) (qs : List Number)
    → written_columns sense rows cs ls bs qs ≡ at_live ls (columns_with sense rows cs ls bs qs)
written_columns-chosen sense rows [] ls bs qs = sym (none_at_live ls)
written_columns-chosen sense rows (c ∷ cs) [] bs qs = refl
written_columns-chosen sense rows (c ∷ cs) (l ∷ ls) [] qs = refl
written_columns-chosen sense rows (c ∷ cs) (l ∷ ls) (b ∷ bs) [] = refl
written_columns-chosen sense rows (c ∷ cs) (l ∷ ls) (b ∷ bs) (q ∷ qs) =
    ap (λ (ws : List ColumnDef). if l.live then written_column sense rows c l b q ∷ ws else ws) (written_columns-chosen sense rows cs ls bs qs)

-- ---- one by one
pub rows_with-length : (rs : List RowDef) (ss : List Sides) → length ss ≡ length rs → length (rows_with rs ss) ≡ length rs
rows_with-length [] ss e = refl
rows_with-length (r ∷ rs) [] e = absurd (omega (arith, e))
rows_with-length (r ∷ rs) (s ∷ ss) e = ap suc (rows_with-length rs ss (omega (arith, e)))

pub rows_with-at : (rs : List RowDef) (ss : List Sides) (i : ℕ) → length ss ≡ length rs → i < length rs → get_or (rows_with rs ss) i no_row ≡ row_with (get_or rs i no_row) (get_or ss i no_sides)
rows_with-at [] ss i e l = absurd (omega (arith, l))
rows_with-at (r ∷ rs) [] i e l = absurd (omega (arith, e))
rows_with-at (r ∷ rs) (s ∷ ss) zero e l = refl
rows_with-at (r ∷ rs) (s ∷ ss) (suc i) e l = rows_with-at rs ss i (omega (arith, e)) (omega (arith, l))

-- as many of each
pub record AreAsMany (cs : List ColumnDef) (ls : List Line) (bs : List Bounds) (qs : List Number) : Type 0 where
  pub lines : length ls ≡ length cs
  pub bounds : length bs ≡ length cs
  pub costs : length qs ≡ length cs

fewer : (c : ColumnDef) (cs : List ColumnDef) (l : Line) (ls : List Line) (b : Bounds) (bs : List Bounds) (q : Number) (qs : List Number)
    → AreAsMany (c ∷ cs) (l ∷ ls) (b ∷ bs) (q ∷ qs) → AreAsMany cs ls bs qs
fewer c cs l ls b bs q qs m = record { lines = omega (arith, m.lines); bounds = omega (arith, m.bounds); costs = omega (arith, m.costs) }

pub columns_with-length : (sense : Sense) (rows : List Line) (cs : List ColumnDef) (ls : List Line) (bs : List Bounds) (qs : List Number) → AreAsMany cs ls bs qs
    → length (columns_with sense rows cs ls bs qs) ≡ length cs
columns_with-length sense rows [] ls bs qs m = refl
columns_with-length sense rows (c ∷ cs) [] bs qs m = absurd (omega (arith, m.lines))
columns_with-length sense rows (c ∷ cs) (l ∷ ls) [] qs m = absurd (omega (arith, m.bounds))
columns_with-length sense rows (c ∷ cs) (l ∷ ls) (b ∷ bs) [] m = absurd (omega (arith, m.costs))
columns_with-length sense rows (c ∷ cs) (l ∷ ls) (b ∷ bs) (q ∷ qs) m = ap suc (columns_with-length sense rows cs ls bs qs (fewer c cs l ls b bs q qs m))

pub columns_with-at : (sense : Sense) (rows : List Line) (cs : List ColumnDef) (ls : List Line) (bs : List Bounds) (qs : List Number) (j : ℕ) → AreAsMany cs ls bs qs → j < length cs
    → get_or (columns_with sense rows cs ls bs qs) j no_column ≡ written_column sense rows (get_or cs j no_column) (get_or ls j no_line) (get_or bs j no_bounds) (get_or qs j zero_ℚ)
columns_with-at sense rows [] ls bs qs j m h = absurd (omega (arith, h))
columns_with-at sense rows (c ∷ cs) [] bs qs j m h = absurd (omega (arith, m.lines))
columns_with-at sense rows (c ∷ cs) (l ∷ ls) [] qs j m h = absurd (omega (arith, m.bounds))
columns_with-at sense rows (c ∷ cs) (l ∷ ls) (b ∷ bs) [] j m h = absurd (omega (arith, m.costs))
columns_with-at sense rows (c ∷ cs) (l ∷ ls) (b ∷ bs) (q ∷ qs) zero m h = refl
columns_with-at sense rows (c ∷ cs) (l ∷ ls) (b ∷ bs) (q ∷ qs) (suc j) m h = columns_with-at sense rows cs ls bs qs j (fewer c cs l ls b bs q qs m) (omega (arith, h))

-- ---- names
pub rows_with-names : (rs : List RowDef) (ss : List Sides) → length ss ≡ length rs → names_of_rows (rows_with rs ss) ≡ names_of_rows rs
rows_with-names [] ss e = refl
rows_with-names (r ∷ rs) [] e = absurd (omega (arith, e))
rows_with-names (r ∷ rs) (s ∷ ss) e = ap (λ (ns : List (List ℕ)). r.name ∷ ns) (rows_with-names rs ss (omega (arith, e)))

pub columns_with-names : (sense : Sense) (rows : List Line) (cs : List ColumnDef) (ls : List Line) (bs : List Bounds) (qs : List Number) → AreAsMany cs ls bs qs
    → names_of_columns (columns_with sense rows cs ls bs qs) ≡ names_of_columns cs
columns_with-names sense rows [] ls bs qs m = refl
columns_with-names sense rows (c ∷ cs) [] bs qs m = absurd (omega (arith, m.lines))
columns_with-names sense rows (c ∷ cs) (l ∷ ls) [] qs m = absurd (omega (arith, m.bounds))
columns_with-names sense rows (c ∷ cs) (l ∷ ls) (b ∷ bs) [] m = absurd (omega (arith, m.costs))
columns_with-names sense rows (c ∷ cs) (l ∷ ls) (b ∷ bs) (q ∷ qs) m = ap (λ (ns : List (List ℕ)). c.name ∷ ns) (columns_with-names sense rows cs ls bs qs (fewer c cs l ls b bs q qs m))

-- ---- the rows and columns of the program with what they have now, and those of them that are written
abbrev pub made_rows : ProgramData → Sparse → List RowDef
made_rows program p = rows_with program.rows p.sides

abbrev pub made_columns : ProgramData → Sparse → List ColumnDef
made_columns program p = columns_with program.sense p.matrix.rows program.columns p.matrix.columns p.bounds p.costs

module _ (program : ProgramData) (p : Sparse) (s : IsSparse p) (o : IsOf program p) where
  pub as_many_sides : length p.sides ≡ length program.rows
  as_many_sides = s.sides ∙ o.rows

  pub as_many_columns : AreAsMany program.columns p.matrix.columns p.bounds p.costs
  as_many_columns = record { lines = o.columns; bounds = s.bounds ∙ o.columns; costs = s.costs ∙ o.columns }

  pub made_rows-length : length (made_rows program p) ≡ length p.matrix.rows
  made_rows-length = rows_with-length program.rows p.sides as_many_sides ∙ sym o.rows

  pub made_columns-length : length (made_columns program p) ≡ length p.matrix.columns
  made_columns-length = columns_with-length program.sense p.matrix.rows program.columns p.matrix.columns p.bounds p.costs as_many_columns ∙ sym o.columns

  pub written-rows : (written_program program p).rows ≡ at_live p.matrix.rows (made_rows program p)
  written-rows = written_rows-chosen program.rows p.matrix.rows p.sides

  pub written-columns : (written_program program p).columns ≡ at_live p.matrix.columns (made_columns program p)
  written-columns = written_columns-chosen program.sense p.matrix.rows program.columns p.matrix.columns p.bounds p.costs

  pub written_rows-length : length (written_program program p).rows ≡ length (live_ids p.matrix.rows)
  written_rows-length = ap length written-rows ∙ chosen-length 0 p.matrix.rows (made_rows program p) made_rows-length

  pub written_columns-length : length (written_program program p).columns ≡ length (live_ids p.matrix.columns)
  written_columns-length = ap length written-columns ∙ chosen-length 0 p.matrix.columns (made_columns program p) made_columns-length

  pub made_row-at : (i : ℕ) → i < length p.matrix.rows → get_or (made_rows program p) i no_row ≡ row_with (get_or program.rows i no_row) (sides_at p i)
  made_row-at i l = rows_with-at program.rows p.sides i as_many_sides (omega (arith, l, o.rows))

  pub made_column-at : (j : ℕ) → j < length p.matrix.columns
      → get_or (made_columns program p) j no_column ≡ written_column program.sense p.matrix.rows (get_or program.columns j no_column) (column_at p j) (bounds_at p j) (cost_at p j)
  made_column-at j l = columns_with-at program.sense p.matrix.rows program.columns p.matrix.columns p.bounds p.costs j as_many_columns (omega (arith, l, o.columns))

  -- row a of the written program is that of live row a
  pub written_row-at : (a : ℕ) → a < length (live_ids p.matrix.rows)
      → get_or (written_program program p).rows a no_row ≡ row_with (get_or program.rows (slice_index (live_ids p.matrix.rows) a) no_row) (sides_at p (slice_index (live_ids p.matrix.rows) a))
  written_row-at a l = ap (λ (rs : List RowDef). get_or rs a no_row) written-rows ∙ chosen-at p.matrix.rows (made_rows program p) no_row made_rows-length a l
      ∙ made_row-at (slice_index (live_ids p.matrix.rows) a) (id_inside p.matrix.rows a l)

  pub written_column-at : (b : ℕ) → b < length (live_ids p.matrix.columns)
      → get_or (written_program program p).columns b no_column ≡ written_column program.sense p.matrix.rows (get_or program.columns (slice_index (live_ids p.matrix.columns) b) no_column)
      (column_at p (slice_index (live_ids p.matrix.columns) b)) (bounds_at p (slice_index (live_ids p.matrix.columns) b)) (cost_at p (slice_index (live_ids p.matrix.columns) b))
  written_column-at b l = ap (λ (cs : List ColumnDef). get_or cs b no_column) written-columns ∙ chosen-at p.matrix.columns (made_columns program p) no_column made_columns-length b l
      ∙ made_column-at (slice_index (live_ids p.matrix.columns) b) (id_inside p.matrix.columns b l)
