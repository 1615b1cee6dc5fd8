use Rattle.std.proofs.Common.{List, [], subst}
use Rattle.presolve_model.specs.declared.instance.Rule.{Rule}
use Rattle.worker_tasks.specs.Tasks.{TaskData}
use Rattle.round_tasks.specs.Cutting.{AddsAllTasks}
use Rattle.round_tasks.proofs.Ruling.{tasks_made}
use Rattle.round_tasks.proofs.cutting.tasks_of.Goals as goal

pub returns : goal.returns
returns c =
    let v = c.args.version.now in
    let n = c.args.ids.now in
    tasks_made v n c.add_tasks.new.tasks.items c.add_tasks-2.new.tasks.items c.in_ok-verdicts.verdicts c.in_ok-reductions.reductions
    (subst (λ (rs : List Rule). AddsAllTasks v n rs [] c.add_tasks.new.tasks.items c.in_ok-verdicts.verdicts) c.verdict_rules.ensures
    (subst (λ (ts : List TaskData). AddsAllTasks v n c.verdict_rules.result ts c.add_tasks.new.tasks.items c.in_ok-verdicts.verdicts) c.new-tasks.ensures.items c.in_ok-verdicts.ensures))
    (subst (λ (rs : List Rule). AddsAllTasks v n rs c.add_tasks.new.tasks.items c.add_tasks-2.new.tasks.items c.in_ok-reductions.reductions) c.reduction_rules.ensures c.in_ok-reductions.ensures)
    c.are_both-is_whole.result c.are_both-is_whole.ensures
