use Rattle.std.proofs.Common.{length, map}
use Rattle.lp_model.specs.Vectors.{vector_of}
use Rattle.lp_prices.proofs.Pricing.{Pricing}
use Rattle.lp_prices.proofs.reduced_costs.priced_sum.Given as goal

-- the sum of the entries so far
abbrev pub invariant-loop-entry : goal.invariant-loop-entry
invariant-loop-entry g l = Pricing g.T.Exact.room (length l.duals) (vector_of (map g.T.Exact.number l.duals)) l.entries l.rest (g.T.Exact.number l.sum)

abbrev pub decreases-loop-entry : goal.decreases-loop-entry
decreases-loop-entry g l = length l.rest
