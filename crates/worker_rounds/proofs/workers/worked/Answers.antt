use Rattle.std.proofs.Common.{rules, ◌≡◌, length, subst, sym}
use Rattle.std.specs.List.{All}
use Rattle.worker_rounds.specs.Workers.{HasFound, WorkerData}
use Rattle.worker_rounds.proofs.Working.{written}
use Rattle.worker_rounds.proofs.workers.worked.Goals as goal

pub returns-clause-found : goal.returns-clause-found
returns-clause-found g c =
    let long : c.in_ok-workers.workers.len ≡ length c.let_work.new.workers = search rules in
    subst (All (λ (w : WorkerData). HasFound c.args.version.now c.args.tasks.now w.1)) (sym (written c.let_work.new.workers _ c.in_ok-workers.workers.len long)) c.let_work.ensures.found
