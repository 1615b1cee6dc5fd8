use Rattle.std.proofs.Common.{◌≡◌, ℕ, ◌<◌, map}
use Rattle.lp_model.specs.Vectors.{vector_of}
use Rattle.lp_model.specs.Meaning.{meaning}
use Rattle.lp_prices.specs.Prices.{ReducedCostFitsIn}
use Rattle.undo_pairs.specs.Numbers.{reduced_costs_of}
use Rattle.postsolve_dual.proofs.starting.reduced_costs.Given as goal

-- the reduced costs so far
abbrev pub invariant-loop-j : goal.invariant-loop-j
invariant-loop-j g l = record {
  costs : map g.T.Exact.number l.costs.items ≡ reduced_costs_of (meaning l.program) (vector_of l.duals) l.j;
  fits : (k : ℕ) → k < l.j → ReducedCostFitsIn g.T.Exact.room (meaning l.program) (vector_of l.duals) k;
}
