-- The problem of a program, written, is the program.
use Rattle.std.proofs.Common.{◌≡◌, ℕ, List, [], ◌∷◌, length, map, refl, sym, ap, ap₂, ◌∙◌, subst, arith}
use Rattle.std.specs.List.{All}
use Rattle.std.proofs.lemmas.List.Elements.{All-head, All-tail}
use Rattle.lp_model.specs.declared.program.Sense.{Sense}
use Rattle.lp_model.specs.declared.program.RowDef.{RowDef}
use Rattle.lp_model.specs.declared.program.ColumnDef.{ColumnDef}
use Rattle.lp_model.specs.ProgramData.{ProgramData}
use Rattle.lp_model.specs.Sparse.{Ascends}
use Rattle.lp_model.specs.Turning.{signed}
use Rattle.lp_model.specs.Writable.{EntriesAscend}
use Rattle.problem_model.specs.declared.line.Line.{Line}
use Rattle.problem_model.specs.declared.line.Sides.{Sides}
use Rattle.problem_model.specs.Programs.{IsProblemOf, bounds_of, line_of, sides_of, written_column, written_columns, written_program, written_rows}
use Rattle.problem_model.specs.Sparse.{Sparse}
use Rattle.program_laws.proofs.Negating.{signed_twice}
use Rattle.program_laws.proofs.ProblemsShow.{row_live}
use Rattle.written_ids.proofs.AllLive.{AreLive, live_after, renumbered-all}

rows_back : (rs : List RowDef) (ls : List Line) → length ls ≡ length rs → AreLive ls → written_rows rs ls (map sides_of rs) ≡ rs
rows_back [] ls e a = refl
rows_back (r ∷ rs) [] e a = absurd (omega (arith, e))
rows_back (r ∷ rs) (l ∷ ls) e a = rw (a 0 (omega arith)) (ap (λ (ws : List RowDef). r ∷ ws) (rows_back rs ls (omega (arith, e)) (live_after l ls a)))

column_back : (sense : Sense) (rows : List Line) (c : ColumnDef) → AreLive rows → Ascends 0 (length rows) c.entries
    → written_column sense rows c (line_of c.entries) (bounds_of c) (signed sense c.cost) ≡ c
column_back sense rows c a h t = record c { cost = signed_twice sense c.cost t; entries = renumbered-all rows a 0 c.entries h t }

columns_back : (sense : Sense) (rows : List Line) (cs : List ColumnDef) → AreLive rows → All (λ (c : ColumnDef). Ascends 0 (length rows) c.entries) cs
    → written_columns sense rows cs (map (λ c. line_of c.entries) cs) (map bounds_of cs) (map (λ c. signed sense c.cost) cs) ≡ cs
columns_back sense rows [] a h = refl
columns_back sense rows (c ∷ cs) a h = ap₂ ◌∷◌ (column_back sense rows c a (All-head (λ (c : ColumnDef). Ascends 0 (length rows) c.entries) c cs h))
    (columns_back sense rows cs a (All-tail (λ (c : ColumnDef). Ascends 0 (length rows) c.entries) c cs h))

pub program_back : (program : ProgramData) (p : Sparse) → IsProblemOf program p → EntriesAscend program → written_program program p ≡ program
program_back program p h e t = record program { rows = rows t; columns = columns t }
  where
    live : AreLive p.matrix.rows
    live k l = row_live program p h k (omega (arith, l, h.rows))

    rows : written_rows program.rows p.matrix.rows p.sides ≡ program.rows
    rows = ap (λ (ss : List Sides). written_rows program.rows p.matrix.rows ss) h.sides ∙ rows_back program.rows p.matrix.rows h.rows live

    columns : written_columns program.sense p.matrix.rows program.columns p.matrix.columns p.bounds p.costs ≡ program.columns
    columns = (λ t. written_columns program.sense p.matrix.rows program.columns (h.columns t) (h.bounds t) (h.costs t))
        ∙ columns_back program.sense p.matrix.rows program.columns live (subst (λ (n : ℕ). All (λ (c : ColumnDef). Ascends 0 n c.entries) program.columns) (sym h.rows) e)
