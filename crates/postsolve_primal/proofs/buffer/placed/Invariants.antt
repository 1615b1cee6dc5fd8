use Rattle.std.proofs.Common.{◌≡◌, ◌++◌, length, map}
use Rattle.std.specs.Vec.Iter.{into_iter_items}
use Rattle.undo_records.specs.Lift.{placed}
use Rattle.postsolve_primal.proofs.buffer.placed.Given as goal

abbrev pub invariant-loop-rest : goal.invariant-loop-rest
invariant-loop-rest g l = map g.T.Exact.number l.values.items ++ placed l.rest (map g.T.Exact.number (into_iter_items l.left)) ≡ placed l.columns l.fn.numbers

abbrev pub decreases-loop-rest : goal.decreases-loop-rest
decreases-loop-rest g l = length l.rest
