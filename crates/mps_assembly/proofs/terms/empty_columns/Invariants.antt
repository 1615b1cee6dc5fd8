use Rattle.std.proofs.Common.{◌≡◌, ℕ, [], length}
use Rattle.mps_assembly.specs.Columnwise.{terms_at}
use Rattle.mps_assembly.proofs.terms.empty_columns.Given as goal

-- so many columns, none of which has a term
abbrev pub invariant-loop-room : goal.invariant-loop-room
invariant-loop-room l = record { count : length l.found.items ≡ l.room-index; empty : (j : ℕ) → terms_at l.found.items j ≡ [] }
