use Rattle.std.proofs.Common.{take}
use Rattle.std.specs.List.{flat_map}
use Rattle.presolve_model.specs.declared.instance.Rule.TheVariants as rule_of
use Rattle.presolve_model.specs.Instances.{instances_from}
use Rattle.presolve_model.specs.Tallies.{open_on}
use Rattle.presolve_rounds.proofs.Running.{goes_on, none_passed, one_more}
use Rattle.presolve_rounds.proofs.dominated.visit_dominated.Goals as goal

pub loop-row-init : goal.loop-row-init
loop-row-init c = (none_passed c.args.walk.now.frozen.now.value c.args.watch.now c.args.book.now c.requires.going, c.in_ok-footprints.ensures c.args.book.now.problem)

pub visit_row-requires-clause-going : goal.visit_row-requires-clause-going
visit_row-requires-clause-going c =
    goes_on c.args.walk.now.frozen.now.value (flat_map (instances_from (open_on c.args.walk.now.frozen.now.value.tally) c.args.walk.now.frozen.now.value.problem rule_of.DominatedColumn) (take c.loop-row.row-index c.args.rows.now)) c.args.watch.now c.loop-row.watch c.args.book.now c.loop-row.book c.requires.going c.loop-row.invariant.0

pub loop-row-preserved : goal.loop-row-preserved
loop-row-preserved c = (
  one_more c.args.walk.now.frozen.now.value (instances_from (open_on c.args.walk.now.frozen.now.value.tally) c.args.walk.now.frozen.now.value.problem rule_of.DominatedColumn) c.args.rows.now c.loop-row.row-index 0 c.args.watch.now c.loop-row.watch c.visit_row.new.watch c.args.book.now c.loop-row.book c.visit_row.new.book
      c.loop-row-test.true c.loop-row.invariant.0 c.in_ok-visit_row.ensures.passed,
  c.in_ok-visit_row.ensures.kept,
)
