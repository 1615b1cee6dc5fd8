use Rattle.std.proofs.Common.{take}
use Rattle.presolve_model.specs.declared.instance.Rule.{Rule}
use Rattle.presolve_model.specs.Scans.{instances_at}
use Rattle.presolve_model.specs.Tallies.{open_on}
use Rattle.place_laws.specs.Choosing.{ids_of, instances_of}
use Rattle.presolve_rounds.proofs.Running.{goes_on, none_passed, one_more}
use Rattle.presolve_rounds.proofs.pass.visit_rules.Goals as goal

pub loop-rule-init : goal.loop-rule-init
loop-rule-init c = none_passed c.args.walk.now.frozen.now.value c.args.watch.now c.args.book.now c.requires.going

pub visit_rule-requires-clause-going : goal.visit_rule-requires-clause-going
visit_rule-requires-clause-going c = let a = c.args.walk.now.frozen.now.value in
    goes_on a (instances_of (open_on a.tally) a.problem c.args.ids.now (take c.loop-rule.rule-index c.args.rules.now)) c.args.watch.now c.loop-rule.watch c.args.book.now c.loop-rule.book c.requires.going c.loop-rule.invariant

pub loop-rule-preserved : goal.loop-rule-preserved
loop-rule-preserved c = let a = c.args.walk.now.frozen.now.value in
    one_more a (λ (r : Rule). instances_at (open_on a.tally) a.problem r (ids_of c.args.ids.now r)) c.args.rules.now c.loop-rule.rule-index _ c.args.watch.now c.loop-rule.watch c.visit_rule.new.watch c.args.book.now c.loop-rule.book c.visit_rule.new.book
    c.loop-rule-test.true c.loop-rule.invariant c.in_ok-visit_rule.ensures
