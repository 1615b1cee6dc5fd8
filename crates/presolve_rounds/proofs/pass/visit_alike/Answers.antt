use Rattle.presolve_rounds.proofs.Sharing.{all_fresh, all_stale, first_in, none_found}
use Rattle.presolve_rounds.proofs.pass.visit_alike.Goals as goal

pub returns-in_default : goal.returns-in_default
returns-in_default c = none_found c.args.walk.now.frozen.now.value c.args.found.now c.args.watch.now c.args.book.now c.in_default.len_below c.requires.going

pub returns-then-not-branch : goal.returns-then-not-branch
returns-then-not-branch c =
    all_stale c.args.walk.now.frozen.now.value c.args.watch.now c.leave.new.self c.args.book.now _ c.args.found.now c.head.result c.requires.going (c.requires.alike.alike _ (first_in c.args.found.now _ c.in-len1-up.len_at_least)) (first_in c.args.found.now _ c.in-len1-up.len_at_least)
    (c.in_ok-is_fresh.ensures.stale c.if-not-branch.true) c.in_ok-leave.ensures c.head.ensures

pub meet_alike-requires-clause-fresh : goal.meet_alike-requires-clause-fresh
meet_alike-requires-clause-fresh c =
    all_fresh c.args.walk.now.frozen.now.value c.args.book.now _ c.args.found.now c.requires.alike (first_in c.args.found.now _ c.in-len1-up.len_at_least) (c.in_ok-is_fresh.ensures.fresh c.if-not-branch.false)
