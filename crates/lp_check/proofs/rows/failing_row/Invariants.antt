use Rattle.std.proofs.Common.{length}
use Rattle.lp_model.specs.Vectors.{Vector}
use Rattle.lp_model.specs.Meaning.{meaning}
use Rattle.lp_check.specs.Deciding.{ColumnsPassIn, RowsPassIn}
use Rattle.lp_check.specs.Summing.{AreRowSumsIn}
use Rattle.lp_check.proofs.rows.failing_row.Given as goal

-- the rows so far pass
abbrev pub invariant-loop-i : goal.invariant-loop-i
invariant-loop-i g l = (x : Vector) → AreRowSumsIn g.T.Exact.number g.T.Exact.room (meaning l.program) x (length l.program.columns) l.sums → ColumnsPassIn g.T.Exact.room (meaning l.program) x (length l.program.columns) → RowsPassIn g.T.Exact.room (meaning l.program) x l.i
