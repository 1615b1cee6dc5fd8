use Rattle.std.proofs.Common.{◌≡◌, ◌≤◌, length, drop}
use Rattle.lp_model.specs.Vectors.{vector_of}
use Rattle.undo_records.specs.Lift.{lift}
use Rattle.undo_records.specs.Room.{LiftFits}
use Rattle.postsolve_primal.proofs.lifting.undo_all.Given as goal

abbrev pub invariant-loop-left : goal.invariant-loop-left
invariant-loop-left g l = record {
  within : l.left ≤ length l.undos;
  size : length l.point ≡ length l.fn.point;
  lifted : vector_of l.point ≡ lift (drop l.left l.undos) (vector_of l.fn.point);
  fits : LiftFits g.T.Exact.room (drop l.left l.undos) (vector_of l.fn.point);
}

abbrev pub decreases-loop-left : goal.decreases-loop-left
decreases-loop-left g l = l.left
