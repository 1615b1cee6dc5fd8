use Rattle.std.proofs.Common.{◌≡◌}
use Rattle.sparse_problem.proofs.problem.Problem.keep_sums.Given as goal

abbrev pub invariant-loop-row : goal.invariant-loop-row
invariant-loop-row l = l.self ≡ l.fn.self
