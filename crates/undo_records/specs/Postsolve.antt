-- What brings a solution of the reduced program back.
use Rattle.std.specs.Prelude.{Bool, List}
use Rattle.fractions.specs.Number.{Number}
use Rattle.lp_model.specs.declared.program.Sense.{Sense}
use Rattle.undo_records.specs.declared.label.Label.{Label}
use Rattle.undo_records.specs.declared.undo.Undo.{Undo}
use Rattle.transactions.specs.Transactions.{Transaction}

-- the original program's sense, whether the records undo duals too, its columns and rows by id, what was added to its cost, and the reductions, first applied first, each with its transaction
pub record Postsolve : Type 0 where
  pub sense : Sense
  pub duals : Bool
  pub columns : List Label
  pub rows : List Label
  pub offset : Number
  pub undos : List Undo
  pub transactions : List Transaction
