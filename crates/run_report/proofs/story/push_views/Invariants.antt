use Rattle.std.proofs.Common.{◌≡◌, ◌++◌, length}
use Rattle.std.specs.Prelude.{codes}
use Rattle.run_report.specs.Views.{views_text}
use Rattle.run_report.proofs.story.push_views.Given as goal

-- those so far, and those that are left, behind the mark that is next
abbrev pub invariant-loop-rest : goal.invariant-loop-rest
invariant-loop-rest l = l.text.items ++ views_text l.program l.problem l.mark l.rest ≡ l.initial.text.items ++ views_text l.program l.problem (codes ": ") l.subjects

abbrev pub decreases-loop-rest : goal.decreases-loop-rest
decreases-loop-rest l = length l.rest
