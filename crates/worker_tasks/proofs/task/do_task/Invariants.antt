use Rattle.std.proofs.Common.{◌≡◌, length}
use Rattle.std.specs.List.{Contains}
use Rattle.shared_book.specs.History.{StartsWith}
use Rattle.presolve_model.specs.declared.instance.Instance.{Instance}
use Rattle.presolve_model.specs.Tallies.{open_on}
use Rattle.book_turns.specs.Turns.{IsPass}
use Rattle.worker_tasks.proofs.Tasking.{IsGone}
use Rattle.worker_tasks.proofs.task.do_task.Given as goal

-- the proposals of the ids so far were committed, and are found
abbrev pub invariant-loop-rest : goal.invariant-loop-rest
invariant-loop-rest g l = record {
  pass : IsPass l.book l.pass;
  number : l.pass.number ≡ l.initial.pass.number;
  seen : StartsWith l.pass.seen l.initial.pass.seen;
  gone : IsGone (open_on l.version.tally) l.version.problem l.version.applied l.task.rule l.book l.task.ids l.rest l.initial.pass l.pass l.initial.work.found l.work.found l.answered;
  done : l.work.done ≡ l.initial.work.done;
  kept : (e : Instance) → Contains l.initial.work.found e → Contains l.work.found e;
}

abbrev pub decreases-loop-rest : goal.decreases-loop-rest
decreases-loop-rest g l = length l.rest
