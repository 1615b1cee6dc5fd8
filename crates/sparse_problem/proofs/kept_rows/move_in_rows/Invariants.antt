use Rattle.std.proofs.Common.{length}
use Rattle.problem_model.specs.Edits.{bounds_set}
use Rattle.sparse_problem.specs.KeptRows.{AreBetween}
use Rattle.sparse_problem.proofs.Mending.{AreLeft}
use Rattle.sparse_problem.proofs.kept_rows.move_in_rows.Given as goal

-- the rows that the terms name that are left are still to be mended
abbrev pub invariant-loop-rest : goal.invariant-loop-rest
invariant-loop-rest l = AreBetween l.parts (bounds_set l.parts l.j l.lower l.upper) l.rest l.kept.items × AreLeft l.parts l.j l.rest

abbrev pub decreases-loop-rest : goal.decreases-loop-rest
decreases-loop-rest l = length l.rest
