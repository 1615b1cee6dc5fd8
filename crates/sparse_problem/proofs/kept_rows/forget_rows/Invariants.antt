use Rattle.std.proofs.Common.{length}
use Rattle.problem_model.specs.Sparse.{Sparse}
use Rattle.sparse_problem.specs.KeptRows.{AreKeptBut}
use Rattle.sparse_problem.proofs.kept_rows.forget_rows.Given as goal

-- the rows that the terms name that are left are still to be forgotten
abbrev pub invariant-loop-rest : goal.invariant-loop-rest
invariant-loop-rest l = (q : Sparse) → AreKeptBut q l.terms l.fn.kept.items → AreKeptBut q l.rest l.kept.items

abbrev pub decreases-loop-rest : goal.decreases-loop-rest
decreases-loop-rest l = length l.rest
