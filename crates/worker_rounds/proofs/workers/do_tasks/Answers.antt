use Rattle.std.proofs.Common.{sym, subst}
use Rattle.worker_tasks.specs.Work.{WorkData}
use Rattle.worker_rounds.specs.Workers.{HasFound}
use Rattle.worker_rounds.proofs.workers.do_tasks.Goals as goal

pub returns-in-Err : goal.returns-in-Err
returns-in-Err g c = subst (λ (w : WorkData). HasFound c.args.version.now c.args.tasks.now w) (sym c.fail.ensures) c.do_numbered.ensures.found
