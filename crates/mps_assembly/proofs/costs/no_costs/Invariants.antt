use Rattle.std.proofs.Common.{◌≡◌, ℕ, length}
use Rattle.fractions.specs.Number.{zero_ℚ}
use Rattle.mps_assembly.specs.Columnwise.{cost_at}
use Rattle.mps_assembly.proofs.costs.no_costs.Given as goal

-- so many costs, all of which are 0
abbrev pub invariant-loop : goal.invariant-loop
invariant-loop l = record { count : length l.costs.items ≡ l.counter; zero : (j : ℕ) → cost_at l.costs.items j ≡ zero_ℚ }
