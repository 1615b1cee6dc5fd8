use Rattle.std.proofs.Common.{◌≡◌, ◌++◌, drop}
use Rattle.dual_rules.specs.Merging.{sides_named}
use Rattle.dual_rules.proofs.both_columns.add_sides_of.Given as goal

-- those so far, so that with those that are left they are all
abbrev pub invariant-loop-term : goal.invariant-loop-term
invariant-loop-term l = l.parts.items ++ sides_named l.problem (drop l.term-index l.entries) ≡ l.initial.parts.items ++ sides_named l.problem l.entries
