use Rattle.lp_passages.proofs.Optimal.{meets_is_best}
use Rattle.lp_passages.proofs.what_meets_is_best.Goals as goal

pub returns : goal.returns
returns c = meets_is_best
