use Rattle.std.proofs.Common.{sym, ◌∙◌}
use Rattle.fractions.proofs.GcdSteps.{gcd-%}
use Rattle.fractions.proofs.divisor.shortened.Goals as goal

pub loop-y-preserved : goal.loop-y-preserved
loop-y-preserved c = sym (gcd-% c.loop-y.x c.loop-y.y) ∙ c.loop-y.invariant
