use Rattle.std.proofs.Common.{◌≡◌, ◌++◌, length}
use Rattle.run_report.specs.Naming.{names_text}
use Rattle.run_report.proofs.named.push_names.Given as goal

-- the names so far, and those that are left
abbrev pub invariant-loop-rest : goal.invariant-loop-rest
invariant-loop-rest l = l.text.items ++ names_text l.program l.rest ≡ l.initial.text.items ++ names_text l.program l.subjects

abbrev pub decreases-loop-rest : goal.decreases-loop-rest
decreases-loop-rest l = length l.rest
