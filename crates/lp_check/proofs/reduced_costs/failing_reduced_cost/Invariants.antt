use Rattle.std.proofs.Common.{map}
use Rattle.lp_model.specs.Vectors.{vector_of}
use Rattle.lp_model.specs.Meaning.{meaning}
use Rattle.lp_check.specs.DecidingPairs.{ReducedCostsPassIn}
use Rattle.lp_check.proofs.reduced_costs.failing_reduced_cost.Given as goal

-- the reduced costs so far pass
abbrev pub invariant-loop-j : goal.invariant-loop-j
invariant-loop-j g l = ReducedCostsPassIn g.T.Exact.room l.program.sense (meaning l.program) (vector_of (map g.T.Exact.number l.point)) (vector_of (map g.T.Exact.number l.duals)) l.j
