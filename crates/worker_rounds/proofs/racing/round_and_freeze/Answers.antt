use Rattle.std.proofs.Common.{ap, ◌∙◌, subst, sym}
use Rattle.shared_book.specs.History.{HasFrozen, Known}
use Rattle.presolve_model.specs.Ledger.{Ledger}
use Rattle.book_turns.specs.Turns.{Turn}
use Rattle.round_marks.specs.Forming.{AreFormsOf, Formed}
use Rattle.round_marks.specs.Marking.{Watched}
use Rattle.worker_rounds.proofs.Raced.{then_left, then_long}
use Rattle.worker_rounds.proofs.racing.round_and_freeze.Goals as goal

pub returns-clause-long : goal.returns-clause-long
returns-clause-long g c =
    let frozen = subst (λ (k : Known Ledger Turn). HasFrozen k c.args.version) (sym c.round.ensures.same) c.requires.frozen in
    then_long c.args.book.now c.round.new.main c.freeze.new.pass c.args.version c.in_ok-next.next c.requires.stands c.requires.short frozen c.in_ok-next.ensures c.in_ok-before.before c.in_ok-before.ensures.stamps c.in_ok-before.ensures.sparse

pub returns-clause-left : goal.returns-clause-left
returns-clause-left g c = λ goes.
    let frozen = subst (λ (k : Known Ledger Turn). HasFrozen k c.args.version) (sym c.round.ensures.same) c.requires.frozen in
    let forms = subst (λ (f : Formed). AreFormsOf f c.args.version.problem) (sym (c.in_ok-is_all.ensures.forms ∙ ap (λ (x : Watched). x.forms) c.begin_round.ensures)) c.requires.looks.forms in
    then_left c.args.book.now c.round.new.main c.freeze.new.pass c.args.version c.in_ok-next.next c.requires.stands c.requires.short frozen c.in_ok-next.ensures c.in_ok-before.before c.in_ok-before.ensures.stamps c.round.new.watch
    forms (c.in_ok-is_all.ensures.left (c.is_worth_another-goes_on.ensures goes))
