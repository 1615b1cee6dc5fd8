use Rattle.threaded_passes.proofs.Listing.{first_listed, none_left, on_first, on_some, one_taken, some_listed}
use Rattle.threaded_passes.proofs.listed.visit_listed.Goals as goal

pub loop-rest-init : goal.loop-rest-init
loop-rest-init c = on_first c.args.walk.now.frozen.now.value c.args.found.now c.args.watch.now c.args.book.now c.requires.going c.requires.listed

pub visit_row-requires-clause-listed : goal.visit_row-requires-clause-listed
visit_row-requires-clause-listed c = some_listed c.args.walk.now.frozen.now.value c.run_length-count.result c.loop-rest.rest.now _ c.split_at.ensures.front c.loop-rest.invariant.listed

pub loop-rest-preserved-then-count-gt0 : goal.loop-rest-preserved-then-count-gt0
loop-rest-preserved-then-count-gt0 c =
    on_some c.args.walk.now.frozen.now.value c.args.found.now c.args.watch.now c.args.book.now c.run_length-count.result c.loop-rest.rest.now _ _ c.loop-rest.watch c.visit_row.new.watch c.loop-rest.book c.visit_row.new.book
    c.split_at.ensures.front c.split_at.ensures.back c.loop-rest.invariant c.in_ok-visit_row.ensures

pub visit_one-requires-clause-listed : goal.visit_one-requires-clause-listed
visit_one-requires-clause-listed c = first_listed c.args.walk.now.frozen.now.value c.loop-rest.rest.now _ c.in-len1-up.len_at_least c.loop-rest.invariant.listed

pub loop-rest-preserved : goal.loop-rest-preserved
loop-rest-preserved c =
    on_some c.args.walk.now.frozen.now.value c.args.found.now c.args.watch.now c.args.book.now 1 c.loop-rest.rest.now _ _ c.loop-rest.watch c.visit_one.new.watch c.loop-rest.book c.visit_one.new.book
    (one_taken c.loop-rest.rest.now _ c.in-len1-up.len_at_least) c.split_at-else-count-gt0.ensures.back c.loop-rest.invariant c.in_ok-visit_one.ensures

pub returns : goal.returns
returns c = none_left c.args.walk.now.frozen.now.value c.args.found.now c.args.watch.now c.args.book.now c.loop-rest.rest.now c.loop-rest.watch c.loop-rest.book c.in_default.len_below c.loop-rest.invariant
