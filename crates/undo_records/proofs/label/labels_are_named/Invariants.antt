use Rattle.std.proofs.Common.{ℕ, ◌<◌, slice_index_or}
use Rattle.lp_model.specs.Name.{IsName}
use Rattle.undo_records.specs.declared.label.Label.{Label}
use Rattle.undo_records.proofs.label.labels_are_named.Given as goal

-- those so far have names
abbrev pub invariant-loop-label : goal.invariant-loop-label
invariant-loop-label l = (i : ℕ) (d : Label) → i < l.label-index → IsName (slice_index_or l.labels i d).name
