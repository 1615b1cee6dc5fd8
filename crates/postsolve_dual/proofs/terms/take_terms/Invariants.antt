use Rattle.std.proofs.Common.{length}
use Rattle.lp_model.specs.Vectors.{vector_of}
use Rattle.postsolve_dual.proofs.Takings.{Taking}
use Rattle.postsolve_dual.proofs.terms.take_terms.Given as goal

-- the terms before the rest are taken
abbrev pub invariant-loop-entry : goal.invariant-loop-entry
invariant-loop-entry g l = Taking g.T.Exact.room (length l.numbers) (length l.fn.numbers) l.entries l.rest (g.T.Exact.number l.factor) (vector_of l.fn.numbers) (vector_of l.numbers)

abbrev pub decreases-loop-entry : goal.decreases-loop-entry
decreases-loop-entry g l = length l.rest
