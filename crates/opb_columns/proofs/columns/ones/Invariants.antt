use Rattle.std.proofs.Common.{◌≡◌, ◌<◌, ℕ, length}
use Rattle.std.specs.Prelude.{None, Some, slice_index_or}
use Rattle.fractions.specs.Number.{one_ℚ}
use Rattle.opb_columns.proofs.columns.ones.Given as goal

-- so many upper bounds, all of which are 1
abbrev pub invariant-loop : goal.invariant-loop
invariant-loop l = record { count : length l.uppers.items ≡ l.counter; one : (j : ℕ) → j < l.counter → slice_index_or l.uppers.items j None ≡ Some (Some one_ℚ) }
