use Rattle.aggregation_laws.proofs.DoubletonEquation.{owes}
use Rattle.aggregation_laws.proofs.doubleton_equations_can_be_substituted.Goals as goal

pub returns : goal.returns
returns c = owes
