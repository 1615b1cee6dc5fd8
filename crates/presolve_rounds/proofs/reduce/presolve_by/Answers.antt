use Rattle.std.proofs.Common.{◌≡◌, ◌≤◌, ℕ, arith, Option, Some, None, sym, refl, ap, ◌∙◌, subst}
use Rattle.std.specs.Prelude.{IfOk, IfSome}
use Rattle.lp_model.specs.ProgramData.{ProgramData}
use Rattle.lp_model.specs.Writable.{EntriesAscend, Writable}
use Rattle.problem_model.specs.Programs.{IsProblemOf}
use Rattle.undo_records.specs.declared.side.Side.{Side}
use Rattle.presolve_model.specs.declared.conclusion.End.{End}
use Rattle.presolve_model.specs.declared.conclusion.Options.{Options}
use Rattle.presolve_model.specs.Ledger.{Ledger}
use Rattle.presolve_model.specs.Ordered.{options_of, RunsTo}
use Rattle.presolve_model.specs.Tallies.{tightenings}
use Rattle.run_laws.proofs.TenTimes.{ten_at_most}
use Rattle.presolve_rounds.specs.Conclusions.{Concludes}
use Rattle.presolve_rounds.proofs.Concluding.{runs_to, same_options}
use Rattle.presolve_rounds.proofs.reduce.presolve_by.Goals as goal

pub run_by-requires-clause-undecided : goal.run_by-requires-clause-undecided
run_by-requires-clause-undecided g c = ap (λ (b : Ledger). b.verdict) c.in_ok-book.ensures.new

pub conclude-requires-clause-ascends : goal.conclude-requires-clause-ascends
conclude-requires-clause-ascends g c = subst EntriesAscend (sym c.source_of-source.ensures.given) c.requires.ascends

pub conclude-requires-clause-writable : goal.conclude-requires-clause-writable
conclude-requires-clause-writable g c = subst (Writable c.args.options.now.numbers) (sym c.source_of-source.ensures.given) c.requires.writable

pub conclude-requires-clause-start : goal.conclude-requires-clause-start
conclude-requires-clause-start g c =
    subst (λ (x : ProgramData). IsProblemOf x c.run_by.new.book.start) (sym c.source_of-source.ensures.given)
    (subst (IsProblemOf c.args.program) (sym c.in_ok-end.ensures.book.start) c.in_ok-book.ensures.start)

pub conclude-requires-clause-opened : goal.conclude-requires-clause-opened
conclude-requires-clause-opened g c = same_options c.args.options.now c.in_ok-book.book c.run_by.new.book c.in_ok-book.ensures.new c.in_ok-end.ensures.book

pub conclude-requires-clause-runs : goal.conclude-requires-clause-runs
conclude-requires-clause-runs g c = λ in_order.
    subst (λ (x : ProgramData). RunsTo c.args.options.now x c.in_ok-end.end c.run_by.new.book) (sym c.source_of-source.ensures.given)
    (subst (λ (o : Options). RunsTo o c.args.program c.in_ok-end.end c.run_by.new.book) (same_options c.args.options.now c.in_ok-book.book c.run_by.new.book c.in_ok-book.ensures.new c.in_ok-end.ensures.book)
    (runs_to c.args.program c.args.options.now c.in_ok-book.book c.run_by.new.book c.in_ok-end.end c.in_ok-end.end c.in_ok-book.ensures.start c.in_ok-book.ensures.new c.in_ok-end.ensures.book refl c.in_ok-end.ensures.ordered))

pub conclude-requires-clause-few : goal.conclude-requires-clause-few
conclude-requires-clause-few g c = by c.in_ok-end.end refl
  where
    b : Ledger
    b = c.run_by.new.book

    limit : b.limit ≡ c.args.options.now.limit
    limit = c.in_ok-end.ensures.book.limit ∙ ap (λ (x : Ledger). x.limit) c.in_ok-book.ensures.new

    by : (o : Option End) → c.in_ok-end.end ≡ o → IfSome o (λ _. (j : ℕ) (side : Side) → tightenings b.records j side ≤ 10)
    by None e = tt
    by (Some end) e = ten_at_most (options_of c.args.options.now.dual b) c.args.program end b (omega (arith, c.limit.ensures, c.limit.type_inv))
        (runs_to c.args.program c.args.options.now c.in_ok-book.book b c.in_ok-end.end (Some end) c.in_ok-book.ensures.start c.in_ok-book.ensures.new c.in_ok-end.ensures.book e c.in_ok-end.ensures.ordered)

pub returns : goal.returns
returns g c = subst (λ (x : ProgramData). IfOk c.conclude.result (λ made. Concludes c.args.options.now c.args.workers.now x made)) c.source_of-source.ensures.given c.conclude.ensures
