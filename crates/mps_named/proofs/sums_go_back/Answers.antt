use Rattle.mps_named.proofs.SumsBack.{sum-turned, sum-back, sum-Fits}
use Rattle.mps_named.proofs.sums_go_back.Goals as goal

pub returns : goal.returns
returns c = record { turned = sum-turned; back = sum-back; fits = sum-Fits }
