use Rattle.std.proofs.Common.{map}
use Rattle.lp_model.specs.Vectors.{vector_of}
use Rattle.lp_model.specs.Meaning.{meaning}
use Rattle.lp_check.specs.Summing.{AreRowSumsIn}
use Rattle.lp_check.proofs.sums.row_sums.Given as goal

-- the sums over the columns so far
abbrev pub invariant-loop-j : goal.invariant-loop-j
invariant-loop-j g l = AreRowSumsIn g.T.Exact.number g.T.Exact.room (meaning l.program) (vector_of (map g.T.Exact.number l.point)) l.j l.sums.items
