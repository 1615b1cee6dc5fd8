use Rattle.presolve_rounds.proofs.Running.{stale_left}
use Rattle.threaded_passes.proofs.Listing.{listed_enabled}
use Rattle.threaded_passes.proofs.listed.visit_one.Goals as goal

pub returns-then-not-branch : goal.returns-then-not-branch
returns-then-not-branch c =
    stale_left c.args.walk.now.frozen.now.value c.args.watch.now c.leave.new.self c.args.book.now c.args.instance c.head.result c.requires.going (c.in_ok-is_fresh.ensures.stale c.if-not-branch.true) c.in_ok-leave.ensures c.head.ensures

pub meet-requires-clause-enabled : goal.meet-requires-clause-enabled
meet-requires-clause-enabled c = listed_enabled c.args.walk.now.frozen.now.value c.args.book.now c.args.instance c.requires.listed (c.in_ok-is_fresh.ensures.fresh c.if-not-branch.false)
