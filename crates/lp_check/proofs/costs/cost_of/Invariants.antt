use Rattle.std.proofs.Common.{map}
use Rattle.lp_model.specs.Meaning.{meaning}
use Rattle.lp_model.specs.Vectors.{vector_of}
use Rattle.lp_prices.proofs.Sums.{Summed}
use Rattle.lp_check.proofs.costs.cost_of.Given as goal

-- the sum over the columns so far
abbrev pub invariant-loop-j : goal.invariant-loop-j
invariant-loop-j g l = Summed g.T.Exact.room l.j (meaning l.program).costs (vector_of (map g.T.Exact.number l.point)) (g.T.Exact.number l.sum)
