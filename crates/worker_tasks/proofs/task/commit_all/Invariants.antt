use Rattle.std.proofs.Common.{◌≡◌, ◌+◌, length}
use Rattle.std.specs.List.{All}
use Rattle.shared_book.specs.History.{Known, StartsWith}
use Rattle.presolve_model.specs.Ledger.{Ledger}
use Rattle.book_turns.specs.Sharing.{IsFrom}
use Rattle.book_turns.specs.Turns.{IsPass, left_of, Turn}
use Rattle.worker_tasks.specs.Tasks.{AreCommitted}
use Rattle.worker_tasks.proofs.task.commit_all.Given as goal

-- what is left to be committed may be, and ends what was to be committed at first
abbrev pub invariant-loop-rest : goal.invariant-loop-rest
invariant-loop-rest g l = record {
  pass : IsPass l.book l.pass;
  number : l.pass.number ≡ l.initial.pass.number;
  seen : StartsWith l.pass.seen l.initial.pass.seen;
  taken : All (IsFrom (left_of l.book.start l.pass.seen)) l.rest;
  ends : (q : Known Ledger Turn) → AreCommitted l.book l.pass l.rest q → AreCommitted l.book l.initial.pass l.initial.rest q;
  counts : length l.pass.mine + length l.rest ≡ length l.initial.pass.mine + length l.initial.rest;
}

abbrev pub decreases-loop-rest : goal.decreases-loop-rest
decreases-loop-rest g l = length l.rest
