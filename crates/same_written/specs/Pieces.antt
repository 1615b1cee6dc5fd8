-- What is written of one row, and of one column.
use Rattle.std.specs.Prelude.{List, [], ◌∷◌, if◌then◌else◌}
use Rattle.fractions.specs.Number.{Number}
use Rattle.lp_model.specs.declared.program.Sense.{Sense}
use Rattle.lp_model.specs.declared.program.RowDef.{RowDef}
use Rattle.lp_model.specs.declared.program.ColumnDef.{ColumnDef}
use Rattle.problem_model.specs.declared.line.Line.{Line}
use Rattle.problem_model.specs.declared.line.Sides.{Sides}
use Rattle.problem_model.specs.declared.line.Bounds.{Bounds}
use Rattle.problem_model.specs.Programs.{written_column}

-- a live row with these sides; nothing where it is gone
abbrev pub row_piece : RowDef → Line → Sides → List RowDef
row_piece r l s = if l.live then record r { lower = s.lower; upper = s.upper } ∷ [] else []

-- a live column with these bounds and this cost; nothing where it is gone
abbrev pub column_piece : Sense → List Line → ColumnDef → Line → Bounds → Number → List ColumnDef
column_piece sense rows c l b cost = if l.live then written_column sense rows c l b cost ∷ [] else []
