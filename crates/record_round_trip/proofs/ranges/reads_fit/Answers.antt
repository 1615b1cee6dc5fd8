use Rattle.record_round_trip.specs.Ranges.{ReadFits}
use Rattle.record_round_trip.proofs.Items.{next_taken}
use Rattle.record_round_trip.proofs.ranges.reads_fit.Goals as goal

pub loop-read-preserved : goal.loop-read-preserved
loop-read-preserved c = next_taken ReadFits c.args.reads.now c.loop-read.read-index _ c.loop-read-test.true c.read_fits.ensures c.loop-read.invariant
