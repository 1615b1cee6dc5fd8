-- What is told of a book.
use Rattle.std.specs.Prelude.{◌≡◌, ℕ, Bool, List, map}
use Rattle.lp_model.specs.ProgramData.{ProgramData}
use Rattle.lp_model.specs.Names.{names_of_rows, names_of_columns}
use Rattle.lp_model.specs.Turning.{signed}
use Rattle.undo_records.specs.declared.label.Label.{Label}
use Rattle.undo_records.specs.Postsolve.{Postsolve}
use Rattle.undo_records.specs.Walk.{lives}
use Rattle.problem_model.specs.declared.line.Line.{Line}
use Rattle.presolve_model.specs.Ledger.{Ledger}

-- the names that labels tell
abbrev pub names_in : List Label → List (List ℕ)
names_in labels = map (λ label. label.name) labels

-- whether each line is there
abbrev pub are_live : List Line → List Bool
are_live lines = map (λ line. line.live) lines

-- the records of a book of a program's problem: the program's sense and names, whether duals are asked for, what is live, what was added to
-- the cost in the file's sense, and the transactions
pub record IsToldOf (dual : Bool) (program : ProgramData) (b : Ledger) (told : Postsolve) : Type 0 where
  pub sense : told.sense ≡ program.sense
  pub duals : told.duals ≡ dual
  pub undos : told.undos ≡ b.records
  pub transactions : told.transactions ≡ b.transactions
  pub offset : told.offset ≡ signed program.sense b.problem.offset
  pub row_names : names_in told.rows ≡ names_of_rows program.rows
  pub column_names : names_in told.columns ≡ names_of_columns program.columns
  pub rows : lives told.rows ≡ are_live b.problem.matrix.rows
  pub columns : lives told.columns ≡ are_live b.problem.matrix.columns
