use Rattle.std.proofs.Common.{◌≡◌, ◌++◌, drop}
use Rattle.std.specs.Vec.Iter.{into_iter_items}
use Rattle.problem_model.specs.Programs.{written_columns}
use Rattle.problem_data.proofs.written.live_columns.Given as goal

-- what is left to write gives the result
abbrev pub invariant-loop-j : goal.invariant-loop-j
invariant-loop-j l = l.columns.items ++ written_columns l.target.sense l.target.rows.now (into_iter_items l.originals) (into_iter_items l.lines) (drop l.j l.bounds) (drop l.j l.costs)
    ≡ written_columns l.target.sense l.target.rows.now l.fn.originals.items l.fn.lines.items l.bounds l.costs
