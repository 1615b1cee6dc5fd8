-- What a presolve makes of a program, and what its report counts.
use Rattle.std.specs.Prelude.{◌≡◌, ℕ, ◌-◌, ◌^◌, length, min}
use Rattle.std.specs.List.{sum_by}
use Rattle.lp_model.specs.ProgramData.{ProgramData}
use Rattle.undo_records.specs.Postsolve.{Postsolve}
use Rattle.presolve_report.specs.declared.report.Report.{Report}

-- a program, what is left of it, the records of how that came about, and the report
pub record Outcome : Type 0 where
  pub source : ProgramData
  pub program : ProgramData
  pub records : Postsolve
  pub report : Report

-- how many entries a program's columns have; the count stands still at its type's end
abbrev pub entries_of : ProgramData → ℕ
entries_of program = min (sum_by (λ column. length column.entries) program.columns) (2 ^ 64 - 1)

-- the report counts the rows, columns and entries of the program and of what is left, and the records, and gives their offset
pub record Tells (outcome : Outcome) : Type 0 where
  pub rows_before : outcome.report.rows.before ≡ length outcome.source.rows
  pub rows_after : outcome.report.rows.after ≡ length outcome.program.rows
  pub columns_before : outcome.report.columns.before ≡ length outcome.source.columns
  pub columns_after : outcome.report.columns.after ≡ length outcome.program.columns
  pub entries_before : outcome.report.entries.before ≡ entries_of outcome.source
  pub entries_after : outcome.report.entries.after ≡ entries_of outcome.program
  pub undone : outcome.report.records ≡ length outcome.records.undos
  pub offset : outcome.report.offset ≡ outcome.records.offset
