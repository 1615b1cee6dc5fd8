use Rattle.std.proofs.Common.{ℕ, ◌<◌, slice_index_or}
use Rattle.problem_model.specs.declared.edit.Edit.{Edit}
use Rattle.problem_model.specs.NewNumbers.{EditFits}
use Rattle.applying.proofs.admit.all_fit.Given as goal

abbrev pub invariant-loop-edit : goal.invariant-loop-edit
invariant-loop-edit l = (k : ℕ) (d : Edit) → k < l.edit-index → EditFits (slice_index_or l.edits k d)
