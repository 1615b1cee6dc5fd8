use Rattle.std.proofs.Common.{◌≡◌, ◌<◌, ℕ, length}
use Rattle.std.specs.Prelude.{unwrap_or}
use Rattle.fractions.specs.Number.{zero_ℚ}
use Rattle.mps_stores.specs.Entries.{value_in, IsOnce}
use Rattle.mps_assembly.specs.Columnwise.{cost_at}
use Rattle.mps_assembly.proofs.costs.costs_by_column.Given as goal

-- the entries that are left set what is left to set
abbrev pub invariant-loop-rest : goal.invariant-loop-rest
invariant-loop-rest l = record {
  once : IsOnce l.rest;
  count : length l.costs.items ≡ l.columns;
  costs : (j : ℕ) → j < l.columns → unwrap_or (value_in l.rest j) (cost_at l.costs.items j) ≡ unwrap_or (value_in l.fn.row j) zero_ℚ;
}

abbrev pub decreases-loop-rest : goal.decreases-loop-rest
decreases-loop-rest l = length l.rest
