use Rattle.std.proofs.Common.{◌≡◌, ◌<◌, length, None, Some, sym, refl, ap, ◌∙◌, arith}
use Rattle.run_laws.proofs.Runs.{run_more, run_stops}
use Rattle.round_marks.specs.Forming.{forms_of}
use Rattle.round_marks.specs.Marking.{Watched}
use Rattle.round_marks.specs.Stamping.{stamps_of}
use Rattle.presolve_rounds.proofs.Running.{at_fixpoint, more_applied, none_of, ready_from, same_twice, some_of}
use Rattle.presolve_rounds.proofs.rounds.run_with.Goals as goal
use Rattle.presolve_model.specs.declared.conclusion.End.TheVariants.{Fixpoint}

pub loop-book-init : goal.loop-book-init
loop-book-init g c = record {
  same = record { start = refl; numbers = refl; limit = refl };
  limit = c.limit-limit.ensures;
  undecided = c.requires.undecided;
  ready = λ room. ready_from c.args.book.now c.in_ok-stamps.stamps c.args.ids c.in_ok-watch.watch c.stands.ensures.stands (omega (arith, c.limit-limit.ensures, c.limit-limit.type_inv))
      (c.in_ok-stamps.ensures ∙ ap stamps_of c.problem.ensures) c.requires.sorted c.requires.each (ap (λ (x : Watched). x.forms) c.in_ok-watch.ensures ∙ ap forms_of c.problem-2.ensures);
  groups = c.requires.groups;
  ordered = λ e d h. h;
}

pub loop-book-smaller : goal.loop-book-smaller
loop-book-smaller g c =
    let more : length c.loop-book.book.history < length c.round.new.book.history =
    more_applied c.loop-book.book c.round.new.book c.in_ok-round.ensures.committed (λ e. c.if-applied.false (c.applied-in-loop-book.ensures ∙ e ∙ sym c.applied-applied.ensures)) in
    omega (arith, more, c.loop-book-test.true, c.applied.ensures)

pub loop-book-preserved : goal.loop-book-preserved
loop-book-preserved g c =
    let b = c.loop-book.book in
    let d = c.round.new.book in
    let room : length b.history < b.limit = omega (arith, c.loop-book-test.true, c.applied.ensures, c.loop-book.invariant.limit) in
    let none = none_of c.verdict.result d.verdict c.verdict.ensures c.if-is_some.ensures in
    let more : length b.history < length d.history =
    more_applied b d c.in_ok-round.ensures.committed (λ e. c.if-applied.false (c.applied-in-loop-book.ensures ∙ e ∙ sym c.applied-applied.ensures)) in
    record {
      same = same_twice c.args.book.now b d c.loop-book.invariant.same c.in_ok-round.ensures.book;
      limit = c.loop-book.invariant.limit ∙ sym c.in_ok-round.ensures.book.limit;
      undecided = none;
      ready = c.in_ok-round.ensures.ready none;
      groups = c.in_ok-round.ensures.groups;
      ordered = λ e x h. c.loop-book.invariant.ordered e x (run_more b d x e room c.in_ok-round.ensures.committed none more h);
    }

pub returns-then-applied-clause-end : goal.returns-then-applied-clause-end
returns-then-applied-clause-end g c =
    let b = c.loop-book.book in
    let d = c.round.new.book in
    at_fixpoint b d c.in_ok-skipped.skipped c.loop-book.invariant.undecided (omega (arith, c.loop-book-test.true, c.applied.ensures, c.loop-book.invariant.limit)) c.in_ok-round.ensures.committed
    (none_of c.verdict.result d.verdict c.verdict.ensures c.if-is_some.ensures) (sym c.applied-in-loop-book.ensures ∙ c.if-applied.true ∙ c.applied-applied.ensures)
    c.in_ok-skipped.ensures

pub returns-then-is_some-clause-ordered : goal.returns-then-is_some-clause-ordered
returns-then-is_some-clause-ordered g c =
    let b = c.loop-book.book in
    let d = c.round.new.book in
    c.loop-book.invariant.ordered None d (run_stops b d None (omega (arith, c.loop-book-test.true, c.applied.ensures, c.loop-book.invariant.limit)) c.in_ok-round.ensures.committed
    (some_of c.verdict.result d.verdict c.verdict.ensures c.if-is_some.ensures))

pub skipped_after-requires-clause-marked : goal.skipped_after-requires-clause-marked
skipped_after-requires-clause-marked g c =
    let b = c.loop-book.book in
    let d = c.round.new.book in
    let long : length d.history ≡ length b.history = sym c.applied-in-loop-book.ensures ∙ c.if-applied.true ∙ c.applied-applied.ensures in
    c.in_ok-round.ensures.marked (none_of c.verdict.result d.verdict c.verdict.ensures c.if-is_some.ensures)
    (omega (arith, long, c.loop-book-test.true, c.applied.ensures, c.loop-book.invariant.limit, c.in_ok-round.ensures.book.limit))

pub returns-then-applied-clause-ordered : goal.returns-then-applied-clause-ordered
returns-then-applied-clause-ordered g c =
    let b = c.loop-book.book in
    let d = c.round.new.book in
    let long : length d.history ≡ length b.history = sym c.applied-in-loop-book.ensures ∙ c.if-applied.true ∙ c.applied-applied.ensures in
    c.loop-book.invariant.ordered (Some (Fixpoint c.in_ok-skipped.skipped)) d (run_stops b d (Some (Fixpoint c.in_ok-skipped.skipped)) (omega (arith, c.loop-book-test.true, c.applied.ensures, c.loop-book.invariant.limit)) c.in_ok-round.ensures.committed
    (none_of c.verdict.result d.verdict c.verdict.ensures c.if-is_some.ensures, long, c.in_ok-skipped.ensures))

pub round-requires-clause-groups : goal.round-requires-clause-groups
round-requires-clause-groups g c = c.loop-book.invariant.groups

pub end_at_limit-requires-clause-groups : goal.end_at_limit-requires-clause-groups
end_at_limit-requires-clause-groups g c = c.loop-book.invariant.groups
