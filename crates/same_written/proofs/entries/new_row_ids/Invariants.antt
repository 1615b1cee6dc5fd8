use Rattle.std.proofs.Common.{◌≡◌, ◌<◌, ℕ, length, slice_index_or}
use Rattle.problem_model.specs.Programs.{rank}
use Rattle.same_written.proofs.entries.new_row_ids.Given as goal

-- the ids of the rows so far, and the next one
abbrev pub invariant-loop-i : goal.invariant-loop-i
invariant-loop-i l = record {
  long : length l.ids.items ≡ l.i;
  ranks : (k : ℕ) → k < l.i → slice_index_or l.ids.items k 0 ≡ rank l.problem.matrix.rows k;
  next : l.next ≡ rank l.problem.matrix.rows l.i;
}
