use Rattle.std.proofs.Common.{map}
use Rattle.lp_model.specs.Vectors.{vector_of}
use Rattle.lp_model.specs.Meaning.{meaning}
use Rattle.lp_check.specs.Deciding.{ColumnsPassIn}
use Rattle.lp_check.proofs.columns.failing_column.Given as goal

-- the columns so far pass
abbrev pub invariant-loop-j : goal.invariant-loop-j
invariant-loop-j g l = ColumnsPassIn g.T.Exact.room (meaning l.program) (vector_of (map g.T.Exact.number l.point)) l.j
