use Rattle.std.proofs.Common.{ℕ, List, sym, subst}
use Rattle.std.specs.Prelude.{IfOk}
use Rattle.sorted_ids.specs.Ascending.{AscendsFrom}
use Rattle.round_tasks.specs.Cutting.{AddsTasks, HasEachOf}
use Rattle.round_tasks.proofs.Ruling.{ids_ascend, ids_have}
use Rattle.round_tasks.proofs.cutting.add_tasks_at.Goals as goal

pub add_tasks_of-requires-clause-ascends : goal.add_tasks_of-requires-clause-ascends
add_tasks_of-requires-clause-ascends c = subst (AscendsFrom 0) (sym c.of.ensures) (ids_ascend c.args.ids.now c.requires.sorted c.args.rule)

pub add_tasks_of-requires-clause-each : goal.add_tasks_of-requires-clause-each
add_tasks_of-requires-clause-each c = subst (HasEachOf c.args.version.now c.args.rule) (sym c.of.ensures) (ids_have c.args.version.now c.args.ids.now c.requires.each c.args.rule)

pub returns : goal.returns
returns c = subst (λ (ids : List ℕ). IfOk c.add_tasks_of.result (λ whole. AddsTasks c.args.version.now c.args.rule ids c.args.tasks.now.items c.add_tasks_of.new.tasks.items whole)) c.of.ensures c.add_tasks_of.ensures
