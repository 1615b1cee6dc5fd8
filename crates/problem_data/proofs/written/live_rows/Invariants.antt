use Rattle.std.proofs.Common.{◌≡◌, ◌++◌, drop}
use Rattle.std.specs.Vec.Iter.{into_iter_items}
use Rattle.problem_model.specs.Programs.{written_rows}
use Rattle.problem_data.proofs.written.live_rows.Given as goal

-- what is left to write gives the result
abbrev pub invariant-loop-i : goal.invariant-loop-i
invariant-loop-i l = l.rows.items ++ written_rows (into_iter_items l.left) (drop l.i l.lines) (drop l.i l.sides) ≡ written_rows l.fn.originals.items l.lines l.sides
