use Rattle.std.proofs.Common.{◌≡◌}
use Rattle.fractions.specs.Gcd.{gcd}
use Rattle.fractions.proofs.divisor.shortened.Given as goal

abbrev pub invariant-loop-y : goal.invariant-loop-y
invariant-loop-y l = gcd l.x l.y ≡ gcd l.fn.a l.fn.b

abbrev pub decreases-loop-y : goal.decreases-loop-y
decreases-loop-y l = l.y
