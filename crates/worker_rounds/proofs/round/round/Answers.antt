use Rattle.std.proofs.Common.{ℕ, ◌<◌, List, length, sym, ap, ◌∙◌, subst}
use Rattle.std.specs.List.{All}
use Rattle.worker_tasks.specs.Tasks.{HoldsChunk, TaskData}
use Rattle.worker_rounds.specs.Marking.{LeavesFound}
use Rattle.worker_rounds.specs.Workers.{HasFound, IsDone, WorkerData}
use Rattle.worker_rounds.proofs.Complete.{all_left}
use Rattle.worker_rounds.proofs.round.round.Goals as goal

pub worked-requires-clause-hold : goal.worked-requires-clause-hold
worked-requires-clause-hold g c κs within = subst (All (HoldsChunk c.args.version.now)) (sym c.tasks-2.ensures) c.in_ok-tasks.ensures.hold

pub returns-clause-left : goal.returns-clause-left
returns-clause-left g c = λ all.
    let v = c.args.version.now in
    let t = c.in_ok-tasks.tasks in
    let ws = c.in_ok-workers.workers.items in
    let both = c.is_all.ensures all in
    all_left v c.args.ids.now t ws c.args.watch.now c.leave_found.new.watch c.requires.each c.in_ok-tasks.ensures (sym c.is_whole.ensures ∙ both.1)
    (λ i l. subst (λ (us : List WorkerData). IsDone us i) c.as_slice-3.ensures.value (c.in_ok-is_done.ensures both.0 i (subst (λ (n : ℕ). i < n) (sym (ap length c.tasks-3.ensures)) l)))
    (subst (λ (ts : List TaskData). All (λ (x : WorkerData). HasFound v ts x.1) ws) c.tasks-2.ensures c.in_ok-workers.ensures.found)
    (subst (λ (us : List WorkerData). LeavesFound us c.args.watch.now c.leave_found.new.watch) c.as_slice-2.ensures.value c.in_ok-leave_found.ensures)
