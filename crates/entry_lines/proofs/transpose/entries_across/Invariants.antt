use Rattle.std.proofs.Common.{◌≡◌, ◌<◌, ℕ, [], length, slice_index_or, take}
use Rattle.entry_lines.specs.Across.{across}
use Rattle.entry_lines.proofs.transpose.entries_across.Given as goal

-- the rows of the columns so far
abbrev pub invariant-loop-j : goal.invariant-loop-j
invariant-loop-j l = record { long : length l.rows.items ≡ l.count; rows : (i : ℕ) → i < l.count → slice_index_or l.rows.items i [] ≡ across i 0 (take l.j l.columns) }
