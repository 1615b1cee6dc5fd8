use Rattle.lp_model.specs.Meaning.{meaning}
use Rattle.lp_check.proofs.InFrac.{pairs_decided}
use Rattle.lp_check.proofs.checking.check_pair.Goals as goal

pub returns : goal.returns
returns c = pairs_decided c.args.program.now.sense (meaning c.args.program.now) c.args.point.now c.args.duals.now c.as_slice.result.now c.as_slice-2.result.now c.judge_pair.result c.as_slice.ensures c.as_slice-2.ensures c.judge_pair.ensures
