use Rattle.std.proofs.Common.{◌≡◌, ℕ, ◌+◌, ◌-◌}
use Rattle.mps_stores.specs.Stores.{row_in, row_count}
use Rattle.mps_stores.proofs.all_rows.RowEntries.grow.Given as goal

-- no row was changed
abbrev pub invariant-loop-alloc : goal.invariant-loop-alloc
invariant-loop-alloc l = (i : ℕ) → row_in l.self i ≡ row_in l.fn.self i

abbrev pub decreases-loop-alloc : goal.decreases-loop-alloc
decreases-loop-alloc l = l.row + 1 - row_count l.self
