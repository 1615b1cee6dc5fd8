use Rattle.activity_laws.proofs.InfeasibleRow.{decides}
use Rattle.activity_laws.proofs.infeasible_rows_decide.Goals as goal

pub returns : goal.returns
returns c = decides
