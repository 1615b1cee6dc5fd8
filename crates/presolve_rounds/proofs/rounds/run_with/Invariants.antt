use Rattle.std.proofs.Common.{◌≡◌, ◌<◌, ◌-◌, length, Option, None}
use Rattle.presolve_model.specs.declared.conclusion.End.{End}
use Rattle.presolve_model.specs.Ledger.{Ledger}
use Rattle.line_groups.specs.Groups.{AreGroupsOf}
use Rattle.presolve_model.specs.Ordered.{Ordered}
use Rattle.round_laws.specs.Passing.{IsSameBook}
use Rattle.presolve_rounds.specs.Readiness.{IsReady}
use Rattle.presolve_rounds.proofs.rounds.run_with.Given as goal

-- what ends the run from here ends it from the start
abbrev pub invariant-loop-book : goal.invariant-loop-book
invariant-loop-book g l = record {
  same : IsSameBook l.initial.book l.book;
  limit : l.limit ≡ l.book.limit;
  undecided : l.book.verdict ≡ None;
  ready : length l.book.history < l.book.limit → IsReady l.book l.stamps l.ids l.watch;
  groups : AreGroupsOf l.groups l.book.problem;
  ordered : (e : Option End) (c : Ledger) → Ordered l.book e c → Ordered l.initial.book e c;
}

-- each round but the last applies something
abbrev pub decreases-loop-book : goal.decreases-loop-book
decreases-loop-book g l = l.limit - length l.book.history
