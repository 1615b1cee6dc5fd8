use Rattle.std.proofs.Common.{◌≡◌, ◌≤◌, length, drop}
use Rattle.undo_pairs.specs.Numbers.{IsSized, priced_of}
use Rattle.undo_pairs.specs.LiftPair.{lift_pair}
use Rattle.postsolve_dual.specs.PairRoom.{LiftPairFits}
use Rattle.postsolve_dual.proofs.lifting.undo_all.Given as goal

abbrev pub invariant-loop-left : goal.invariant-loop-left
invariant-loop-left g l = record {
  within : l.left ≤ length l.undos;
  sized : IsSized (length l.fn.pair.duals) (length l.fn.pair.point) l.pair;
  lifted : priced_of l.pair ≡ lift_pair (drop l.left l.undos) (priced_of l.fn.pair);
  fits : LiftPairFits g.T.Exact.room (drop l.left l.undos) (priced_of l.fn.pair);
}

abbrev pub decreases-loop-left : goal.decreases-loop-left
decreases-loop-left g l = l.left
