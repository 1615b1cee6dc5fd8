use Rattle.std.proofs.Common.{length}
use Rattle.run_report.proofs.Retold.{IsAlong}
use Rattle.run_report.proofs.story.push_story.Given as goal

abbrev pub invariant-loop-left : goal.invariant-loop-left
invariant-loop-left l = IsAlong l.program l.history l.records l.subject l.initial.book l.initial.text.items l.left l.rest l.book l.text.items

abbrev pub decreases-loop-left : goal.decreases-loop-left
decreases-loop-left l = length l.left
