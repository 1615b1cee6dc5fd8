use Rattle.std.proofs.Common.{◌≡◌, length}
use Rattle.std.specs.List.{All}
use Rattle.worker_rounds.specs.Workers.{MayBegin}
use Rattle.worker_rounds.proofs.workers.hire.Given as goal

-- the workers so far may begin, and the pass that theirs are cut from stays the same
abbrev pub invariant-loop-number : goal.invariant-loop-number
invariant-loop-number l = record {
  same : l.main ≡ l.initial.main;
  long : length l.workers.items ≡ l.number;
  ready : All (MayBegin l.book l.version) l.workers.items;
}
