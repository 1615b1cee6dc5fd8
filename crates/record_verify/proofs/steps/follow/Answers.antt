use Rattle.std.proofs.Common.{rules}
use Rattle.record_verify.proofs.Following.{step_made}
use Rattle.record_verify.proofs.steps.follow.Goals as goal

pub returns : goal.returns
returns c = step_made c.args.problem.now c.made.new.problem c.args.undo.now c.in-Some.made c.args.reads.now c.reduction_of-reduction.result
    c.reduction_of-reduction.ensures (search rules) (search rules) (search rules) (search rules)
