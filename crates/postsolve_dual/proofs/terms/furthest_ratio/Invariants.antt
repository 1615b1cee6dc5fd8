use Rattle.std.proofs.Common.{length}
use Rattle.lp_model.specs.Vectors.{vector_of}
use Rattle.postsolve_dual.proofs.Ratios.{Seeking}
use Rattle.postsolve_dual.proofs.terms.furthest_ratio.Given as goal

-- the furthest ratio so far
abbrev pub invariant-loop-entry : goal.invariant-loop-entry
invariant-loop-entry g l = Seeking g.T.Exact.room l.side (length l.numbers) l.entries l.rest (vector_of l.numbers) (g.T.Exact.number l.best)

abbrev pub decreases-loop-entry : goal.decreases-loop-entry
decreases-loop-entry g l = length l.rest
