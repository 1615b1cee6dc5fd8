use Rattle.std.proofs.Common.{ℕ, ◌<◌, slice_index_or}
use Rattle.record_values.specs.declared.value.Value.{Value}
use Rattle.record_round_trip.specs.Ranges.{ValueFits}
use Rattle.record_round_trip.proofs.ranges.values_fit.Given as goal

abbrev pub invariant-loop-value : goal.invariant-loop-value
invariant-loop-value l = (k : ℕ) (d : Value) → k < l.value-index → ValueFits (slice_index_or l.values k d)
