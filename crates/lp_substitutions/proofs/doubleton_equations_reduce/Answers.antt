use Rattle.lp_substitutions.proofs.DoubletonEquation.{doubleton_equation_reduces}
use Rattle.lp_substitutions.proofs.DoubletonEquationPairs.{doubleton_equation_pairs}
use Rattle.lp_substitutions.proofs.doubleton_equations_reduce.Goals as goal

pub returns-clause-points : goal.returns-clause-points
returns-clause-points c = λ s M i j k r d. doubleton_equation_reduces M i j k r d s

pub returns-clause-pairs : goal.returns-clause-pairs
returns-clause-pairs c = doubleton_equation_pairs
