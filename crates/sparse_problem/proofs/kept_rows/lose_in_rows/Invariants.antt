use Rattle.std.proofs.Common.{length}
use Rattle.problem_model.specs.Edits.{column_deleted}
use Rattle.sparse_problem.specs.KeptRows.{AreBetween}
use Rattle.sparse_problem.proofs.Mending.{AreLeft}
use Rattle.sparse_problem.proofs.kept_rows.lose_in_rows.Given as goal

-- the rows that the terms name that are left are still to be mended
abbrev pub invariant-loop-rest : goal.invariant-loop-rest
invariant-loop-rest l = AreBetween l.parts (column_deleted l.parts l.j) l.rest l.kept.items × AreLeft l.parts l.j l.rest

abbrev pub decreases-loop-rest : goal.decreases-loop-rest
decreases-loop-rest l = length l.rest
