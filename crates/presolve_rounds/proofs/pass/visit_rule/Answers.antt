use Rattle.std.proofs.Common.{ℕ, List, subst, sym, OnOk}
use Rattle.place_laws.specs.Choosing.{ids_of}
use Rattle.presolve_model.specs.declared.instance.Rule.{Rule}
use Rattle.presolve_model.specs.declared.instance.Rule.TheVariants.{DominatedColumn}
use Rattle.presolve_model.specs.Ledger.{Ledger}
use Rattle.presolve_model.specs.Scans.{instances_at}
use Rattle.presolve_model.specs.Tallies.{open_on}
use Rattle.presolve_rounds.specs.Walking.{IsPassed}
use Rattle.presolve_rounds.proofs.pass.visit_rule.Goals as goal

pub returns-in-DominatedColumn : goal.returns-in-DominatedColumn
returns-in-DominatedColumn c =
    let a : Ledger = c.args.walk.now.frozen.now.value in
    subst (λ (r : Rule). OnOk c.visit_dominated.result (IsPassed a (instances_at (open_on a.tally) a.problem r (ids_of c.args.ids.now c.args.rule)) c.args.watch.now c.args.book.now c.visit_dominated.new.watch c.visit_dominated.new.book)) (sym c.in-DominatedColumn.is)
    (subst (λ (ids : List ℕ). OnOk c.visit_dominated.result (IsPassed a (instances_at (open_on a.tally) a.problem DominatedColumn ids) c.args.watch.now c.args.book.now c.visit_dominated.new.watch c.visit_dominated.new.book)) c.of-chosen.ensures c.visit_dominated.ensures)

pub returns-in_default : goal.returns-in_default
returns-in_default c =
    let a : Ledger = c.args.walk.now.frozen.now.value in
    subst (λ (ids : List ℕ). OnOk c.visit_each.result (IsPassed a (instances_at (open_on a.tally) a.problem c.args.rule ids) c.args.watch.now c.args.book.now c.visit_each.new.watch c.visit_each.new.book)) c.of-chosen.ensures c.visit_each.ensures
