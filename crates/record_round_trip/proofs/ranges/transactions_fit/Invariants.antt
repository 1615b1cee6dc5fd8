use Rattle.std.proofs.Common.{ℕ, ◌<◌, slice_index_or}
use Rattle.transactions.specs.Transactions.{Transaction}
use Rattle.record_round_trip.specs.Ranges.{TransactionFits}
use Rattle.record_round_trip.proofs.ranges.transactions_fit.Given as goal

abbrev pub invariant-loop-place : goal.invariant-loop-place
invariant-loop-place l = (k : ℕ) (d : Transaction) → k < l.place → TransactionFits (slice_index_or l.transactions k d)
