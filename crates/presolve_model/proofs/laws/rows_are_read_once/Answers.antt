use Rattle.presolve_model.proofs.Sharing.{one_rises, read_alike, read_by_value}
use Rattle.presolve_model.proofs.laws.rows_are_read_once.Goals as goal

pub returns-clause-alike : goal.returns-clause-alike
returns-clause-alike c = read_alike

pub returns-clause-by_value : goal.returns-clause-by_value
returns-clause-by_value c = read_by_value

pub returns-clause-rises : goal.returns-clause-rises
returns-clause-rises c = one_rises
