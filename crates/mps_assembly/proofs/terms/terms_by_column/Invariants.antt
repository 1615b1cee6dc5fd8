use Rattle.std.proofs.Common.{◌≡◌, ◌<◌, ℕ, length}
use Rattle.std.specs.Prelude.{unwrap_or}
use Rattle.fractions.specs.Number.{zero_ℚ}
use Rattle.mps_profile.specs.Program.{terms_below, id_of}
use Rattle.mps_stores.specs.Stores.{number_in}
use Rattle.mps_assembly.specs.Columnwise.{terms_at}
use Rattle.mps_assembly.proofs.terms.terms_by_column.Given as goal

-- the terms in the rows so far, and the id of the next row
abbrev pub invariant-loop-i : goal.invariant-loop-i
invariant-loop-i l = record {
  count : length l.found.items ≡ l.columns;
  id : l.id ≡ id_of l.kinds l.i;
  terms : (j : ℕ) → j < l.columns → terms_at l.found.items j ≡ terms_below l.kinds (λ i. unwrap_or (number_in l.entries i j) zero_ℚ) l.i;
}
