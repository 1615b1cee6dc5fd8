use Rattle.std.proofs.Common.{drop}
use Rattle.lp_model.specs.Vectors.{vector_of}
use Rattle.postsolve_primal.proofs.Summing.{Summed}
use Rattle.postsolve_primal.proofs.sums.sum_of_terms.Given as goal

abbrev pub invariant-loop-term : goal.invariant-loop-term
invariant-loop-term g l = Summed g.T.Exact.room l.terms (vector_of l.point) (g.T.Exact.number l.sum) (drop l.term-index l.terms)
