use Rattle.book_turns.specs.Turns.{IsPass}
use Rattle.worker_rounds.specs.Looks.{IsLooking}
use Rattle.worker_rounds.proofs.racing.race_on.Given as goal

-- the pass may be used, and it is known where the next round looks
abbrev pub invariant-loop : goal.invariant-loop
invariant-loop g l = record {
  pass : IsPass l.book l.main;
  looking : IsLooking l.main l.looking;
}
