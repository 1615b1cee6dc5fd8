use Rattle.std.proofs.Common.{◌≡◌, ◌++◌, length}
use Rattle.explain_command.specs.Telling.{rules_text}
use Rattle.explain_command.proofs.telling.push_rules.Given as goal

-- those so far, and those that are left
abbrev pub invariant-loop-rest : goal.invariant-loop-rest
invariant-loop-rest l = l.text.items ++ rules_text l.rest ≡ l.initial.text.items ++ rules_text l.counts

abbrev pub decreases-loop-rest : goal.decreases-loop-rest
decreases-loop-rest l = length l.rest
