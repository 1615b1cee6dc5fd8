use Rattle.ray_step_laws.proofs.Records as steps
use Rattle.ray_step_laws.proofs.laws.doubleton_equations_are_weighed.Goals as goal

pub returns : goal.returns
returns c = steps.doubleton_equation
