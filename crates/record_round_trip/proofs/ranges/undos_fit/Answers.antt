use Rattle.record_round_trip.specs.Ranges.{UndoFits}
use Rattle.record_round_trip.proofs.Items.{next}
use Rattle.record_round_trip.proofs.ranges.undos_fit.Goals as goal

pub loop-undo-preserved : goal.loop-undo-preserved
loop-undo-preserved c = next UndoFits c.args.undos.now c.loop-undo.undo-index c.undo-item.result c.loop-undo-test.true c.undo-item.is c.undo_fits.ensures c.loop-undo.invariant
