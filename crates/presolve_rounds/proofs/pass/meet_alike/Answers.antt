use Rattle.std.proofs.Common.{List, sym, subst}
use Rattle.presolve_model.specs.declared.instance.Instance.{Instance}
use Rattle.round_marks.proofs.Watching.{first_and_rest}
use Rattle.presolve_rounds.proofs.Sharing.{first_in, IsLeft, left_first, left_next, left_none, left_stopped}
use Rattle.presolve_rounds.proofs.pass.meet_alike.Goals as goal

pub loop-rest-init : goal.loop-rest-init
loop-rest-init c = left_first c.args.walk.now.frozen.now.value c.args.found.now c.args.watch.now c.args.book.now c.requires.going c.requires.alike c.requires.fresh

pub meet-requires-clause-going : goal.meet-requires-clause-going
meet-requires-clause-going c = c.loop-rest.invariant.going

pub meet-requires-clause-enabled : goal.meet-requires-clause-enabled
meet-requires-clause-enabled c = c.loop-rest.invariant.alike.enabled _ (first_in c.loop-rest.rest.now _ c.in-len1-up.len_at_least)

pub meet-requires-clause-fresh : goal.meet-requires-clause-fresh
meet-requires-clause-fresh c = c.loop-rest.invariant.fresh _ (first_in c.loop-rest.rest.now _ c.in-len1-up.len_at_least)

pub returns-then-branch : goal.returns-then-branch
returns-then-branch c =
    left_stopped c.args.walk.now.frozen.now.value c.args.found.now c.args.watch.now c.args.book.now _ _ c.loop-rest.watch c.meet.new.watch c.loop-rest.book c.meet.new.book
    (subst (λ (es : List Instance). IsLeft c.args.walk.now.frozen.now.value c.args.found.now c.args.watch.now c.args.book.now es c.loop-rest.watch c.loop-rest.book) (sym (first_and_rest c.loop-rest.rest.now _ c.in-len1-up.len_at_least)) c.loop-rest.invariant)
    c.in_ok-meet.ensures.passed _ c.in_ok-meet.ensures.met c.if-branch.true

pub loop-rest-preserved : goal.loop-rest-preserved
loop-rest-preserved c =
    left_next c.args.walk.now.frozen.now.value c.args.found.now c.args.watch.now c.args.book.now _ _ c.loop-rest.watch c.meet.new.watch c.loop-rest.book c.meet.new.book
    (subst (λ (es : List Instance). IsLeft c.args.walk.now.frozen.now.value c.args.found.now c.args.watch.now c.args.book.now es c.loop-rest.watch c.loop-rest.book) (sym (first_and_rest c.loop-rest.rest.now _ c.in-len1-up.len_at_least)) c.loop-rest.invariant)
    c.in_ok-meet.ensures.passed _ c.in_ok-meet.ensures.met c.if-branch.false

pub returns : goal.returns
returns c = left_none c.args.walk.now.frozen.now.value c.args.found.now c.args.watch.now c.args.book.now c.loop-rest.rest.now c.loop-rest.watch c.loop-rest.book c.in_default.len_below c.loop-rest.invariant
