-- Problems of programs, and the programs that are written of problems.
use Rattle.std.specs.Prelude.{◌≡◌, ℕ, ◌+◌, ◌<◌, true, List, [], ◌∷◌, length, map, take, if◌then◌else◌}
use Rattle.std.specs.List.{count_by}
use Rattle.fractions.specs.Number.{Number, zero_ℚ}
use Rattle.lp_model.specs.declared.program.Sense.{Sense}
use Rattle.lp_model.specs.declared.program.RowDef.{RowDef}
use Rattle.lp_model.specs.declared.program.ColumnDef.{ColumnDef}
use Rattle.lp_model.specs.declared.terms.Term.{Term}
use Rattle.lp_model.specs.ProgramData.{ProgramData}
use Rattle.lp_model.specs.Turning.{signed}
use Rattle.problem_model.specs.declared.line.Line.{Line}
use Rattle.problem_model.specs.declared.line.Sides.{Sides}
use Rattle.problem_model.specs.declared.line.Bounds.{Bounds}
use Rattle.problem_model.specs.Matrices.{live_only}
use Rattle.problem_model.specs.Problems.{IsSparse, row_at}
use Rattle.problem_model.specs.Sparse.{Sparse}

-- a live line with these entries, which has never changed
abbrev pub line_of : List Term → Line
line_of ts = record { live = true; entries = ts; live_entries = length ts; changes = 0 }

abbrev pub sides_of : RowDef → Sides
sides_of r = record { lower = r.lower; upper = r.upper; changes = 0 }

abbrev pub bounds_of : ColumnDef → Bounds
bounds_of c = record { lower = c.lower; upper = c.upper; whole = c.whole; semi = c.semi; changes = 0 }

-- the program's rows and columns, all live; costs and constant as they are minimized, nothing added to the cost
pub record IsProblemOf (program : ProgramData) (p : Sparse) : Type 0 where
  pub sound : IsSparse p
  pub rows : length p.matrix.rows ≡ length program.rows
  pub live : (i : ℕ) → i < length program.rows → row_at p i ≡ line_of (row_at p i).entries
  pub columns : p.matrix.columns ≡ map (λ c. line_of c.entries) program.columns
  pub sides : p.sides ≡ map sides_of program.rows
  pub bounds : p.bounds ≡ map bounds_of program.columns
  pub costs : p.costs ≡ map (λ c. signed program.sense c.cost) program.columns
  pub offset : p.offset ≡ zero_ℚ
  pub constant : p.constant ≡ signed program.sense program.constant

-- the new id of line k: how many live lines stand before it
abbrev pub rank : List Line → ℕ → ℕ
rank lines k = count_by (λ l. l.live) (take k lines)

-- the terms at live lines, by the lines' new ids
abbrev pub renumbered : List Line → List Term → List Term
renumbered lines ts = map (λ t. record { id = rank lines t.id; value = t.value }) (live_only lines ts)

-- the live rows, with their present sides
abbrev pub written_rows : List RowDef → List Line → List Sides → List RowDef
written_rows (r ∷ rs) (l ∷ ls) (s ∷ ss) =
    if l.live then record r { lower = s.lower; upper = s.upper } ∷ written_rows rs ls ss else written_rows rs ls ss
written_rows rs ls ss = []

-- a column with the present bounds, cost and entries
abbrev pub written_column : Sense → List Line → ColumnDef → Line → Bounds → Number → ColumnDef
written_column sense rows c l b cost =
    record c { cost = signed sense cost; lower = b.lower; upper = b.upper; whole = b.whole; semi = b.semi; entries = renumbered rows l.entries }

abbrev pub written_columns : Sense → List Line → List ColumnDef → List Line → List Bounds → List Number → List ColumnDef
written_columns sense rows (c ∷ cs) (l ∷ ls) (b ∷ bs) (q ∷ qs) =
    if l.live then written_column sense rows c l b q ∷ written_columns sense rows cs ls bs qs else written_columns sense rows cs ls bs qs
written_columns sense rows cs ls bs qs = []

-- the program of the live rows and columns; names, sense, objective and constant are those of the program that the problem was made of
abbrev pub written_program : ProgramData → Sparse → ProgramData
written_program program p = record program {
  rows = written_rows program.rows p.matrix.rows p.sides;
  columns = written_columns program.sense p.matrix.rows program.columns p.matrix.columns p.bounds p.costs;
}

-- the ids of the live lines, ascending, from k on
abbrev pub live_ids_from : ℕ → List Line → List ℕ
live_ids_from k [] = []
live_ids_from k (l ∷ ls) = if l.live then k ∷ live_ids_from (k + 1) ls else live_ids_from (k + 1) ls

abbrev pub live_ids : List Line → List ℕ
live_ids lines = live_ids_from 0 lines
