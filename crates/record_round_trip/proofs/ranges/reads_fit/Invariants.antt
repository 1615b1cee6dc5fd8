use Rattle.std.proofs.Common.{ℕ, ◌<◌, slice_index_or}
use Rattle.transactions.specs.declared.transactions.PartRead.{PartRead}
use Rattle.record_round_trip.specs.Ranges.{ReadFits}
use Rattle.record_round_trip.proofs.ranges.reads_fit.Given as goal

abbrev pub invariant-loop-read : goal.invariant-loop-read
invariant-loop-read l = (k : ℕ) (d : PartRead) → k < l.read-index → ReadFits (slice_index_or l.reads k d)
