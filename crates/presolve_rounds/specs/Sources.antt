-- The program that a run began with, of which the names are kept, and no entries.
use Rattle.std.specs.Prelude.{◌≡◌, [], map}
use Rattle.lp_model.specs.ProgramData.{ProgramData}
use Rattle.lp_model.specs.declared.program.ColumnDef.{ColumnDef}

-- a column without its entries
abbrev pub emptied : ColumnDef → ColumnDef
emptied c = record c { entries = [] }

-- a program without its entries
abbrev pub without_entries : ProgramData → ProgramData
without_entries program = record program { columns = map emptied program.columns }

-- the program that was given, and what is kept of it
pub record SourceData : Type 0 where
  pub given : ProgramData
  pub kept : ProgramData

-- what is kept is all but its entries
abbrev pub IsKept : SourceData → Type 0
IsKept source = source.kept ≡ without_entries source.given
