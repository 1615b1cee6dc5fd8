use Rattle.shared_book.specs.History.{HasFrozen}
use Rattle.book_turns.specs.Turns.{IsPass}
use Rattle.worker_rounds.specs.Workers.{HasFound}
use Rattle.worker_rounds.proofs.workers.do_tasks.Given as goal

-- the worker may go on, and has found all of what it finished
abbrev pub invariant-loop : goal.invariant-loop
invariant-loop g l = record {
  pass : IsPass l.book l.worker.0;
  frozen : HasFrozen l.worker.0 l.version;
  found : HasFound l.version l.tasks l.worker.1;
}
