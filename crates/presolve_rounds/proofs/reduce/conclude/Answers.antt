use Rattle.std.proofs.Common.{◌≤◌, ℕ, Option, Some, None, sym, ap, subst}
use Rattle.std.specs.Prelude.{IfSome}
use Rattle.fractions.specs.declared.Numbers.{Numbers}
use Rattle.lp_model.specs.Writable.{Writable}
use Rattle.undo_records.specs.declared.side.Side.{Side}
use Rattle.presolve_model.specs.declared.conclusion.End.{End}
use Rattle.presolve_model.specs.declared.conclusion.Options.{Options}
use Rattle.presolve_model.specs.Conclusions.{Concluded, Decided}
use Rattle.presolve_model.specs.Ordered.{RunsTo}
use Rattle.presolve_model.specs.Tallies.{tightenings}
use Rattle.presolve_rounds.specs.Running.{EndsWith}
use Rattle.presolve_rounds.proofs.reduce.conclude.Goals as goal

pub reduced-requires-clause-writable : goal.reduced-requires-clause-writable
reduced-requires-clause-writable c = subst (λ (n : Numbers). Writable n c.args.source.given) (sym (ap (λ (o : Options). o.numbers) c.requires.opened)) c.requires.writable

pub reduced-requires-clause-end : goal.reduced-requires-clause-end
reduced-requires-clause-end c = subst (λ (o : Option End). EndsWith o c.args.book) c.in-Some.is c.requires.end

pub reduced-requires-clause-few : goal.reduced-requires-clause-few
reduced-requires-clause-few c = subst (λ (o : Option End). IfSome o (λ _. (j : ℕ) (side : Side) → tightenings c.args.book.records j side ≤ 10)) c.in-Some.is c.requires.few

pub reduced-requires-clause-runs : goal.reduced-requires-clause-runs
reduced-requires-clause-runs c = λ in_order.
    subst (λ (o : Options). RunsTo o c.args.source.given (Some c.in-Some.end) c.args.book) (sym c.requires.opened)
    (subst (λ (e : Option End). RunsTo c.args.options.now c.args.source.given e c.args.book) c.in-Some.is (c.requires.runs in_order))

pub returns-in_ok-made-in-Some : goal.returns-in_ok-made-in-Some
returns-in_ok-made-in-Some c =
    let made = c.in_ok-made-in-Some.made in
    subst (λ (o : Options). Concluded o c.args.workers.now c.args.source.given made.program made.records made.end) c.requires.opened c.in_ok-made-in-Some.ensures

pub decided-made-requires-clause-decided : goal.decided-made-requires-clause-decided
decided-made-requires-clause-decided c = subst (λ (o : Option End). EndsWith o c.args.book) c.in-None.is c.requires.end

pub decided-made-requires-clause-runs : goal.decided-made-requires-clause-runs
decided-made-requires-clause-runs c = λ in_order.
    subst (λ (o : Options). RunsTo o c.args.source.given None c.args.book) (sym c.requires.opened)
    (subst (λ (e : Option End). RunsTo c.args.options.now c.args.source.given e c.args.book) c.in-None.is (c.requires.runs in_order))

pub concluded-requires : goal.concluded-requires
concluded-requires c = subst (λ (o : Options). Decided o c.args.workers.now c.args.source.given c.decided-made.result.history.items c.decided-made.result.verdict) c.requires.opened c.decided-made.ensures
