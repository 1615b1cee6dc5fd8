use Rattle.std.proofs.Common.{length}
use Rattle.round_tasks.proofs.Ruling.{AreRuled}
use Rattle.round_tasks.proofs.cutting.add_tasks.Given as goal

abbrev pub invariant-loop-rest : goal.invariant-loop-rest
invariant-loop-rest l = AreRuled l.version l.ids l.rules l.rest l.initial.tasks.items l.tasks.items l.is_whole

abbrev pub decreases-loop-rest : goal.decreases-loop-rest
decreases-loop-rest l = length l.rest
