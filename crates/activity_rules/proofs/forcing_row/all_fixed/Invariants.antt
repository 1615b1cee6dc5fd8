use Rattle.std.proofs.Common.{◌≡◌, ◌++◌, length, map}
use Rattle.activity_laws.specs.ForcingRow.{fixed_at_end}
use Rattle.activity_rules.proofs.forcing_row.all_fixed.Given as goal

-- those that are fixed, and those of what is left
abbrev pub invariant-loop-rest : goal.invariant-loop-rest
invariant-loop-rest l = l.edits.items ++ map (fixed_at_end l.extreme) l.rest ≡ map (fixed_at_end l.extreme) l.spans

abbrev pub decreases-loop-rest : goal.decreases-loop-rest
decreases-loop-rest l = length l.rest
