use Rattle.std.proofs.Common.{◌≡◌, ◌<◌, ◌++◌, ℕ, length}
use Rattle.std.specs.Prelude.{unwrap_or}
use Rattle.fractions.specs.Number.{zero_ℚ}
use Rattle.mps_stores.specs.Entries.{value_in, IsOnce}
use Rattle.mps_assembly.specs.Columnwise.{terms_at, number_terms}
use Rattle.mps_assembly.proofs.terms.add_entries.Given as goal

-- the entries that are left add what is left to add
abbrev pub invariant-loop-rest : goal.invariant-loop-rest
invariant-loop-rest l = record {
  once : IsOnce l.rest;
  count : length l.found.items ≡ length l.fn.found.items;
  added : (j : ℕ) → j < length l.fn.found.items
      → terms_at l.found.items j ++ number_terms l.id (unwrap_or (value_in l.rest j) zero_ℚ) ≡ terms_at l.fn.found.items j ++ number_terms l.id (unwrap_or (value_in l.fn.row j) zero_ℚ);
}

abbrev pub decreases-loop-rest : goal.decreases-loop-rest
decreases-loop-rest l = length l.rest
