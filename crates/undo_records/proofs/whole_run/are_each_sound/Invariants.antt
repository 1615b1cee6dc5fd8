use Rattle.std.proofs.Common.{ℕ, ◌<◌, slice_index_or}
use Rattle.undo_records.specs.declared.undo.Undo.{Undo}
use Rattle.undo_records.specs.Sound.{IsSound}
use Rattle.undo_records.proofs.whole_run.are_each_sound.Given as goal

abbrev pub invariant-loop-undo : goal.invariant-loop-undo
invariant-loop-undo l = (k : ℕ) (d : Undo) → k < l.undo-index → IsSound l.rows l.columns (slice_index_or l.undos k d)
