use Rattle.record_round_trip.specs.Ranges.{ValueFits}
use Rattle.record_round_trip.proofs.Items.{next}
use Rattle.record_round_trip.proofs.ranges.values_fit.Goals as goal

pub loop-value-preserved : goal.loop-value-preserved
loop-value-preserved c = next ValueFits c.args.values.now c.loop-value.value-index c.value-item.result c.loop-value-test.true c.value-item.is c.value_fits.ensures c.loop-value.invariant
