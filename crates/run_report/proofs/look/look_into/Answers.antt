use Rattle.std.proofs.Common.{ap}
use Rattle.presolve_model.specs.Ledger.{Ledger}
use Rattle.run_report.proofs.Holding.{run_looked, run_replayed}
use Rattle.run_report.proofs.look.look_into.Goals as goal

pub run-requires : goal.run-requires
run-requires g c = record { undecided = ap (λ (b : Ledger). b.verdict) c.in_ok-book.ensures.new }

pub returns-clause-runs : goal.returns-clause-runs
returns-clause-runs g c =
    (run_looked c.args.program.now c.args.options.now c.in_ok-book.book c.run.new.book c.held_in.new.book c.in_ok-end.end c.in_ok-book.ensures.start c.in_ok-book.ensures.new c.in_ok-end.ensures.book c.in_ok-end.ensures.ordered c.held_in.ensures.book).1

pub returns-clause-replayed : goal.returns-clause-replayed
returns-clause-replayed g c =
    run_replayed c.args.program.now c.args.options.now c.in_ok-book.book c.run.new.book c.held_in.new.book c.in_ok-book.ensures.start c.in_ok-book.ensures.new c.in_ok-end.ensures.book c.held_in.ensures.book c.stands.ensures.stands
