-- A program as data.
use Rattle.std.specs.Prelude.{ℕ, List}
use Rattle.fractions.specs.Number.{Number}
use Rattle.lp_model.specs.declared.program.Sense.{Sense}
use Rattle.lp_model.specs.declared.program.RowDef.{RowDef}
use Rattle.lp_model.specs.declared.program.ColumnDef.{ColumnDef}

-- its parts, rows and columns by id; a name is its bytes
pub record ProgramData : Type 0 where
  pub sense : Sense
  pub objective : List ℕ
  pub constant : Number
  pub rows : List RowDef
  pub columns : List ColumnDef
