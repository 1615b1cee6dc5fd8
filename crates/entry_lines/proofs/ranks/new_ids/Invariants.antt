use Rattle.std.proofs.Common.{◌≡◌, ◌<◌, ℕ, length, slice_index_or}
use Rattle.problem_model.specs.Programs.{rank}
use Rattle.entry_lines.proofs.ranks.new_ids.Given as goal

-- the ids of the lines so far, and the next one
abbrev pub invariant-loop-line : goal.invariant-loop-line
invariant-loop-line l = record {
  long : length l.ids.items ≡ l.line-index;
  ranks : (k : ℕ) → k < l.line-index → slice_index_or l.ids.items k 0 ≡ rank l.lines k;
  next : l.next ≡ rank l.lines l.line-index;
}
