use Rattle.std.proofs.Common.{false}
use Rattle.worker_tasks.proofs.Commits.{first_and_rest}
use Rattle.round_tasks.proofs.Ruling.{ruled_more}
use Rattle.round_tasks.proofs.cutting.add_tasks.Goals as goal

pub loop-rest-preserved-then-not-branch : goal.loop-rest-preserved-then-not-branch
loop-rest-preserved-then-not-branch c =
    ruled_more c.args.version.now c.args.ids.now c.args.rules.now c.loop-rest.rest.now _ _ c.args.tasks.now.items c.loop-rest.tasks.items c.add_tasks_at.new.tasks.items c.loop-rest.is_whole c.in_ok-add_tasks_at.field-0 false
    (first_and_rest c.loop-rest.rest.now _ c.in-len1-up.len_at_least) (λ e. absurd (let f = e in cc)) c.loop-rest.invariant c.in_ok-add_tasks_at.ensures

pub loop-rest-preserved : goal.loop-rest-preserved
loop-rest-preserved c =
    ruled_more c.args.version.now c.args.ids.now c.args.rules.now c.loop-rest.rest.now _ _ c.args.tasks.now.items c.loop-rest.tasks.items c.add_tasks_at.new.tasks.items c.loop-rest.is_whole c.in_ok-add_tasks_at.field-0 c.loop-rest.is_whole
    (first_and_rest c.loop-rest.rest.now _ c.in-len1-up.len_at_least) (λ e. (e, c.if-not-branch.false)) c.loop-rest.invariant c.in_ok-add_tasks_at.ensures
