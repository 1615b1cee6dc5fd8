use Rattle.std.proofs.Common.{take}
use Rattle.std.specs.List.{flat_map}
use Rattle.presolve_model.specs.Instances.{instances_from}
use Rattle.presolve_model.specs.Tallies.{open_on}
use Rattle.presolve_rounds.proofs.Running.{goes_on, none_passed, one_more}
use Rattle.presolve_rounds.proofs.pass.visit_each.Goals as goal

pub loop-id-init : goal.loop-id-init
loop-id-init c = none_passed c.args.walk.now.frozen.now.value c.args.watch.now c.args.book.now c.requires.going

pub visit_at-requires-clause-going : goal.visit_at-requires-clause-going
visit_at-requires-clause-going c =
    goes_on c.args.walk.now.frozen.now.value (flat_map (instances_from (open_on c.args.walk.now.frozen.now.value.tally) c.args.walk.now.frozen.now.value.problem c.args.rule) (take c.loop-id.id-index c.args.ids.now)) c.args.watch.now c.loop-id.watch c.args.book.now c.loop-id.book c.requires.going c.loop-id.invariant

pub loop-id-preserved : goal.loop-id-preserved
loop-id-preserved c =
    one_more c.args.walk.now.frozen.now.value (instances_from (open_on c.args.walk.now.frozen.now.value.tally) c.args.walk.now.frozen.now.value.problem c.args.rule) c.args.ids.now c.loop-id.id-index 0 c.args.watch.now c.loop-id.watch c.visit_at.new.watch c.args.book.now c.loop-id.book c.visit_at.new.book
    c.loop-id-test.true c.loop-id.invariant c.in_ok-visit_at.ensures
