use Rattle.std.proofs.Common.{List, ◌∙◌, sym, subst}
use Rattle.std.specs.List.{Contains}
use Rattle.presolve_model.specs.declared.instance.Instance.{Instance}
use Rattle.worker_rounds.proofs.Working.{found_more, found_still, frozen_on}
use Rattle.worker_rounds.proofs.workers.do_numbered.Goals as goal

pub returns-in_err-answered-clause-found : goal.returns-in_err-answered-clause-found
returns-in_err-answered-clause-found g c = found_still c.args.version.now c.args.tasks.now c.args.worker.now.1 c.do_task.new.work c.do_task.ensures.done c.do_task.ensures.kept c.requires.found

pub returns-in_err-finish-clause-found : goal.returns-in_err-finish-clause-found
returns-in_err-finish-clause-found g c =
    found_still c.args.version.now c.args.tasks.now c.args.worker.now.1 c.finish.new.self (c.in_err-finish.ensures.failed ∙ c.do_task.ensures.done)
    (λ e k. subst (λ (es : List Instance). Contains es e) (sym c.finish.ensures.found) (c.do_task.ensures.kept e k)) c.requires.found

pub returns-clause-found : goal.returns-clause-found
returns-clause-found g c =
    found_more c.args.version.now c.args.tasks.now c.args.worker.now.1 c.do_task.new.work c.finish.new.self c.args.number c.index-tasks-number.result _ c.requires.inside c.index-tasks-number.is c.requires.found c.do_task.ensures.done c.do_task.ensures.kept
    c.in_ok-answered.ensures.found c.in_ok-finish.ensures.done c.finish.ensures.found

pub returns-in_err-answered-clause-frozen : goal.returns-in_err-answered-clause-frozen
returns-in_err-answered-clause-frozen g c = frozen_on c.args.worker.now.0 c.do_task.new.pass c.args.version.now c.do_task.ensures.seen c.requires.frozen

pub returns-in_err-finish-clause-frozen : goal.returns-in_err-finish-clause-frozen
returns-in_err-finish-clause-frozen g c = frozen_on c.args.worker.now.0 c.do_task.new.pass c.args.version.now c.do_task.ensures.seen c.requires.frozen

pub returns-clause-frozen : goal.returns-clause-frozen
returns-clause-frozen g c = frozen_on c.args.worker.now.0 c.do_task.new.pass c.args.version.now c.do_task.ensures.seen c.requires.frozen
