use Rattle.std.proofs.Common.{ℕ, ◌<◌, slice_index_or}
use Rattle.undo_records.specs.declared.undo.Undo.{Undo}
use Rattle.record_round_trip.specs.Ranges.{UndoFits}
use Rattle.record_round_trip.proofs.ranges.undos_fit.Given as goal

abbrev pub invariant-loop-undo : goal.invariant-loop-undo
invariant-loop-undo l = (k : ℕ) (d : Undo) → k < l.undo-index → UndoFits (slice_index_or l.undos k d)
