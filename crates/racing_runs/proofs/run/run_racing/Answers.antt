use Rattle.std.proofs.Common.{◌<◌, ◌^◌, length, sym, ◌∙◌, subst, arith}
use Rattle.threaded_passes.specs.Swept.{Swept}
use Rattle.threaded_passes.specs.Running.{SweepsFrom}
use Rattle.run_laws.proofs.TenTimes.{round_few}
use Rattle.racing_runs.proofs.Few.{any_few, end_few, same_on, same_twice}
use Rattle.racing_runs.proofs.run.run_racing.Goals as goal

pub returns-in-Some-small-clause-few : goal.returns-in-Some-small-clause-few
returns-in-Some-small-clause-few g c =
    let goes = c.in_ok-book.ensures.goes in
    let short : c.in_ok-book.field-0.book.limit < 2 ^ 64 = omega (arith, c.limit-limit.type_inv, c.loop.invariant.limit, goes.limit) in
    end_few c.in_ok-book.field-0.book c.run_from.new.book c.in_ok-end.end goes.stands short c.in_ok-book.ensures.few c.in_ok-end.ensures.ordered

pub returns-then-applied-limit-clause-few : goal.returns-then-applied-limit-clause-few
returns-then-applied-limit-clause-few g c =
    let goes = c.in_ok-book.ensures.goes in
    let short : c.in_ok-book.field-0.book.limit < 2 ^ 64 = omega (arith, c.limit-limit.type_inv, c.loop.invariant.limit, goes.limit) in
    end_few c.in_ok-book.field-0.book c.run_by.new.book c.in_ok-end-2.end goes.stands short c.in_ok-book.ensures.few c.in_ok-end-2.ensures.ordered

pub returns-in-Ended-clause-few : goal.returns-in-Ended-clause-few
returns-in-Ended-clause-few g c =
    let goes = c.in_ok-book.ensures.goes in
    let short : c.in_ok-book.field-0.book.limit < 2 ^ 64 = omega (arith, c.limit-limit.type_inv, c.loop.invariant.limit, goes.limit) in
    any_few c.sweep.new.book c.in-Ended.end (round_few c.in_ok-book.field-0.book c.sweep.new.book goes.stands short c.in_ok-book.ensures.few c.in_ok-end-3.ensures.committed)

pub loop-preserved : goal.loop-preserved
loop-preserved g c =
    let b = c.loop.present in
    let d = c.in_ok-book.field-0.book in
    let e = c.sweep.new.book in
    let goes = c.in_ok-book.ensures.goes in
    let same = c.in_ok-end-3.ensures.book in
    let short : d.limit < 2 ^ 64 = omega (arith, c.limit-limit.type_inv, c.loop.invariant.limit, goes.limit) in
    record {
      same = same_twice c.args.book b e c.loop.invariant.same (same_twice b d e (same_on b d goes) same);
      limit = c.loop.invariant.limit ∙ sym (same.limit ∙ goes.limit);
      undecided = (subst (λ (s : Swept). SweepsFrom s (length d.history) e) c.in-Applied.is c.in_ok-end-3.ensures.swept).0;
      few = round_few d e goes.stands short c.in_ok-book.ensures.few c.in_ok-end-3.ensures.committed;
    }
