use Rattle.ray_columns.proofs.DoubletonEquation.{doubleton_equation_back}
use Rattle.ray_columns.proofs.doubleton_equations_step_back.Goals as goal

pub returns : goal.returns
returns c = doubleton_equation_back
