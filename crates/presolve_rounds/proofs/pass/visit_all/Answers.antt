use Rattle.std.proofs.Common.{List, subst}
use Rattle.presolve_model.specs.declared.instance.Rule.{Rule}
use Rattle.presolve_model.specs.Order.{reduction_order, verdict_order}
use Rattle.presolve_model.specs.Tallies.{open_on}
use Rattle.place_laws.specs.Choosing.{instances_of}
use Rattle.presolve_rounds.specs.Walking.{IsPassed}
use Rattle.presolve_rounds.proofs.Running.{both_passed}
use Rattle.presolve_rounds.proofs.pass.visit_all.Goals as goal

pub returns : goal.returns
returns c =
    let a = c.args.walk.now.frozen.now.value in
    both_passed a (instances_of (open_on a.tally) a.problem c.args.ids.now verdict_order) (instances_of (open_on a.tally) a.problem c.args.ids.now reduction_order) _ _ _ _ _ _
    (subst (λ (rs : List Rule). IsPassed a (instances_of (open_on a.tally) a.problem c.args.ids.now rs) c.args.watch.now c.args.book.now c.visit_rules.new.watch c.visit_rules.new.book) c.verdict_rules.ensures c.in_ok-visit_rules.ensures)
    (subst (λ (rs : List Rule). IsPassed a (instances_of (open_on a.tally) a.problem c.args.ids.now rs) c.visit_rules.new.watch c.visit_rules.new.book c.visit_rules-2.new.watch c.visit_rules-2.new.book) c.reduction_rules.ensures c.in_ok-visit_rules-2.ensures)
