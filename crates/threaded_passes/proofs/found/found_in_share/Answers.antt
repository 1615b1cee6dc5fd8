use Rattle.std.proofs.Common.{◌∙◌}
use Rattle.std.proofs.lemmas.List.{get_or_default}
use Rattle.presolve_model.specs.Tallies.{open_on}
use Rattle.threaded_passes.proofs.Sharing.{found_more, place_more, share_whole}
use Rattle.threaded_passes.proofs.found.found_in_share.Goals as goal

pub loop-place-preserved : goal.loop-place-preserved
loop-place-preserved c = record {
  place = place_more (open_on c.args.tally.now) c.args.problem.now c.args.pieces.now c.args.step c.args.first c.loop-place.lists.items c.push.new.self.items c.loop-place.place c.in_ok-found_in.field-0 c.loop-place.invariant.place c.in_ok-push.ensures.items;
  found = found_more (open_on c.args.tally.now) c.args.problem.now c.args.pieces.now c.args.step c.args.first c.loop-place.lists.items c.push.new.self.items c.loop-place.place c.index-pieces-place.result c.in_ok-found_in.field-0
      c.loop-place.invariant.place (λ d. c.index-pieces-place.is ∙ get_or_default c.args.pieces.now c.loop-place.place c.index-pieces-place.result d c.loop-place-test.true) c.in_ok-found_in.ensures c.in_ok-push.ensures.items c.loop-place.invariant.found;
}

pub returns : goal.returns
returns c = share_whole (open_on c.args.tally.now) c.args.problem.now c.args.pieces.now c.args.step c.args.first c.loop-place.lists.items c.loop-place.place c.requires.step c.loop-place.invariant.place c.loop-place-test.false c.loop-place.invariant.found
