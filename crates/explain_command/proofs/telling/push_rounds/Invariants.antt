use Rattle.std.proofs.Common.{◌≡◌, ◌++◌, length}
use Rattle.std.specs.List.{flat_map}
use Rattle.explain_command.specs.Telling.{round_line}
use Rattle.explain_command.proofs.telling.push_rounds.Given as goal

-- those so far, and those that are left
abbrev pub invariant-loop-rest : goal.invariant-loop-rest
invariant-loop-rest l = l.text.items ++ flat_map round_line l.rest ≡ l.initial.text.items ++ flat_map round_line l.sizes

abbrev pub decreases-loop-rest : goal.decreases-loop-rest
decreases-loop-rest l = length l.rest
