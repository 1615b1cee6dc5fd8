use Rattle.std.proofs.Common.{ℕ, ◌<◌, slice_index_or}
use Rattle.problem_model.specs.declared.edit.Edit.{Edit}
use Rattle.problem_model.specs.NewNumbers.{EditIsWritten}
use Rattle.applying.proofs.admit.can_write_edits.Given as goal

abbrev pub invariant-loop-edit : goal.invariant-loop-edit
invariant-loop-edit l = (k : ℕ) (d : Edit) → k < l.edit-index → EditIsWritten l.numbers (slice_index_or l.edits k d)
