use Rattle.std.proofs.Common.{◌≡◌, ℕ, [], length, slice_index_or}
use Rattle.entry_lines.proofs.transpose.empty_rows.Given as goal

abbrev pub invariant-loop-room : goal.invariant-loop-room
invariant-loop-room l = record { long : length l.rows.items ≡ l.room-index; empty : (i : ℕ) → slice_index_or l.rows.items i [] ≡ [] }
