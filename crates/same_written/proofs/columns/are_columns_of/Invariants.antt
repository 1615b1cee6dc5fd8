use Rattle.std.proofs.Common.{◌≡◌, ◌↔◌, drop}
use Rattle.problem_model.specs.Programs.{written_columns}
use Rattle.same_written.proofs.columns.are_columns_of.Given as goal

-- the columns are what is written where what is left of them is
abbrev pub invariant-loop-j : goal.invariant-loop-j
invariant-loop-j l = (l.left ≡ written_columns l.sense l.problem.matrix.rows (drop l.j l.originals) (drop l.j l.problem.matrix.columns) (drop l.j l.problem.bounds) (drop l.j l.problem.costs))
    ↔ (l.columns ≡ written_columns l.sense l.problem.matrix.rows l.originals l.problem.matrix.columns l.problem.bounds l.problem.costs)
