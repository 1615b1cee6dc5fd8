use Rattle.written_rules.proofs.DoubletonEquation.{doubleton_equation_computes, doubleton_equation_enabled}
use Rattle.written_rules.proofs.doubleton_equations_stand.Goals as goal

pub returns : goal.returns
returns c = λ n p q i j k s on first second. (doubleton_equation_enabled n p q s i j k on first second, doubleton_equation_computes n p q s i j k on first second)
