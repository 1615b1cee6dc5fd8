use Rattle.lp_rows.proofs.CoefficientTightening.{coefficient_tightening}
use Rattle.lp_rows.proofs.coefficient_tightenings_reduce.Goals as goal

pub returns : goal.returns
returns c = λ d M i j f t r. coefficient_tightening M i j f t r d
