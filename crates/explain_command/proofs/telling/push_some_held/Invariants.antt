use Rattle.std.proofs.Common.{ℕ, List, length}
use Rattle.run_report.specs.Reasons.{Adds}
use Rattle.explain_command.specs.Telling.{IsHeldText}
use Rattle.explain_command.proofs.telling.push_some_held.Given as goal

-- what is to be said of those that are left makes the whole of what was said
abbrev pub invariant-loop-rest : goal.invariant-loop-rest
invariant-loop-rest l = (new : List ℕ) → Adds (IsHeldText l.program l.problem l.room l.rest) l.text.items new → Adds (IsHeldText l.program l.problem l.most l.held) l.initial.text.items new

abbrev pub decreases-loop-rest : goal.decreases-loop-rest
decreases-loop-rest l = length l.rest
