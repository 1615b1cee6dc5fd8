use Rattle.std.proofs.Common.{◌≡◌}
use Rattle.std.specs.Prelude.{None, unwrap_or, slice_index_or}
use Rattle.fractions.specs.Number.{zero_ℚ}
use Rattle.mps_profile.specs.Program.{rows_below}
use Rattle.mps_assembly.proofs.rows.row_definitions.Given as goal

-- the rows among the names so far
abbrev pub invariant-loop-i : goal.invariant-loop-i
invariant-loop-i l =
    l.found.items ≡ rows_below l.rows.names.now l.rows.kinds.now (λ i. unwrap_or (slice_index_or l.rows.right_sides.now i None) zero_ℚ) (λ i. slice_index_or l.rows.ranges.now i None) l.i
