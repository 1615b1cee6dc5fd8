-- What is kept of a program has its names, and the same program is written by it.
use Rattle.std.proofs.Common.{◌≡◌, ℕ, Bool, List, [], ◌∷◌, map, sym, refl, ap, ◌∙◌, subst}
use Rattle.std.specs.Prelude.{if◌then◌else◌}
use Rattle.std.specs.List.{All}
use Rattle.std.proofs.lemmas.Simd.{map-map}
use Rattle.fractions.specs.Number.{Number}
use Rattle.lp_model.specs.declared.program.ColumnDef.{ColumnDef}
use Rattle.lp_model.specs.declared.program.RowDef.{RowDef}
use Rattle.lp_model.specs.declared.program.Sense.{Sense}
use Rattle.lp_model.specs.Name.{IsName}
use Rattle.lp_model.specs.Names.{Differ, names_of_columns, WellNamed}
use Rattle.lp_model.specs.ProgramData.{ProgramData}
use Rattle.undo_records.specs.Postsolve.{Postsolve}
use Rattle.problem_model.specs.declared.line.Bounds.{Bounds}
use Rattle.problem_model.specs.declared.line.Line.{Line}
use Rattle.problem_model.specs.Programs.{written_column, written_columns, written_program}
use Rattle.problem_model.specs.Sparse.{Sparse}
use Rattle.presolve_model.specs.Ledger.{Ledger}
use Rattle.presolve_model.specs.Telling.{IsToldOf}
use Rattle.presolve_rounds.specs.Sources.{emptied, without_entries}

-- ---- names
pub names_kept : (cs : List ColumnDef) → names_of_columns (map emptied cs) ≡ names_of_columns cs
names_kept cs = map-map (λ (c : ColumnDef). c.name) emptied cs

named_by : (o : List ℕ) (rs : List RowDef) (cs ds : List ColumnDef) → names_of_columns cs ≡ names_of_columns ds → WellNamed o rs cs → WellNamed o rs ds
named_by o rs cs ds e w = record {
  row_names = w.row_names;
  column_names = subst (All IsName) e w.column_names;
  rows = w.rows;
  columns = subst Differ e w.columns;
}

pub named_without : (o : List ℕ) (rs : List RowDef) (cs : List ColumnDef) → WellNamed o rs cs → WellNamed o rs (map emptied cs)
named_without o rs cs w = named_by o rs cs (map emptied cs) (sym (names_kept cs)) w

pub named_given : (o : List ℕ) (rs : List RowDef) (cs : List ColumnDef) → WellNamed o rs (map emptied cs) → WellNamed o rs cs
named_given o rs cs w = named_by o rs (map emptied cs) cs (names_kept cs) w

-- ---- what is written
columns_kept : (sense : Sense) (rows : List Line) (cs : List ColumnDef) (ls : List Line) (bs : List Bounds) (qs : List Number) → written_columns sense rows (map emptied cs) ls bs qs ≡ written_columns sense rows cs ls bs qs
columns_kept sense rows [] ls bs qs = refl
columns_kept sense rows (c ∷ cs) [] bs qs = refl
columns_kept sense rows (c ∷ cs) (l ∷ ls) [] qs = refl
columns_kept sense rows (c ∷ cs) (l ∷ ls) (b ∷ bs) [] = refl
columns_kept sense rows (c ∷ cs) (l ∷ ls) (b ∷ bs) (q ∷ qs) = ap (λ (ds : List ColumnDef). if l.live then written_column sense rows c l b q ∷ ds else ds) (columns_kept sense rows cs ls bs qs)

pub written_kept : (program : ProgramData) (p : Sparse) → written_program (without_entries program) p ≡ written_program program p
written_kept program p = ap (λ (cs : List ColumnDef). record (written_program program p) { columns = cs }) (columns_kept program.sense p.matrix.rows program.columns p.matrix.columns p.bounds p.costs)

-- ---- what is told
pub told_kept : (dual : Bool) (program kept : ProgramData) (b : Ledger) (told : Postsolve) → kept ≡ without_entries program → IsToldOf dual kept b told → IsToldOf dual program b told
told_kept dual program kept b told e h =
    let k : IsToldOf dual (without_entries program) b told = subst (λ (x : ProgramData). IsToldOf dual x b told) e h in
    record {
      sense = k.sense;
      duals = k.duals;
      undos = k.undos;
      transactions = k.transactions;
      offset = k.offset;
      row_names = k.row_names;
      column_names = k.column_names ∙ names_kept program.columns;
      rows = k.rows;
      columns = k.columns;
    }
