use Rattle.std.proofs.Common.{◌≡◌, None}
use Rattle.round_laws.specs.Passing.{IsSameBook}
use Rattle.racing_runs.proofs.Few.{IsFew}
use Rattle.racing_runs.proofs.run.run_racing.Given as goal

-- the present book was opened as the first one was, and no verdict stands
abbrev pub invariant-loop : goal.invariant-loop
invariant-loop g l = record {
  same : IsSameBook l.fn.book l.present;
  limit : l.limit ≡ l.present.limit;
  undecided : l.present.verdict ≡ None;
  few : IsFew l.present;
}
