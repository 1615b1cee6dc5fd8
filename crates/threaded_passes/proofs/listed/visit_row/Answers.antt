use Rattle.presolve_rounds.proofs.Sharing.{all_stale}
use Rattle.threaded_passes.proofs.Listing.{row_alike, row_enabled, row_fresh}
use Rattle.threaded_passes.proofs.listed.visit_row.Goals as goal

pub returns-then-not-branch : goal.returns-then-not-branch
returns-then-not-branch c =
    let a = c.args.walk.now.frozen.now.value in
    all_stale a c.args.watch.now c.leave.new.self c.args.book.now c.args.first c.args.row.now c.head.result c.requires.going
    (row_alike a c.args.first c.args.row.now c.requires.listed c.requires.there c.requires.sharing c.args.first c.requires.there) c.requires.there
    (c.in_ok-is_fresh.ensures.stale c.if-not-branch.true) c.in_ok-leave.ensures c.head.ensures

pub meet_alike-requires-clause-alike : goal.meet_alike-requires-clause-alike
meet_alike-requires-clause-alike c =
    row_enabled c.args.walk.now.frozen.now.value c.args.first c.args.row.now c.requires.listed c.requires.there c.requires.sharing c.args.book.now (c.in_ok-is_fresh.ensures.fresh c.if-not-branch.false)

pub meet_alike-requires-clause-fresh : goal.meet_alike-requires-clause-fresh
meet_alike-requires-clause-fresh c =
    row_fresh c.args.walk.now.frozen.now.value c.args.first c.args.row.now c.requires.listed c.requires.there c.requires.sharing c.args.book.now (c.in_ok-is_fresh.ensures.fresh c.if-not-branch.false)
