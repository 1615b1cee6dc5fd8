use Rattle.std.proofs.Common.{◌≡◌, ◌+◌, ◌%◌, ◌≤◌}
use Rattle.fractions.specs.Gcd.{gcd}
use Rattle.fractions.proofs.divisor.binary_gcd.Given as goal

abbrev pub invariant-loop-x : goal.invariant-loop-x
invariant-loop-x l = record { same : gcd l.x l.y ≡ gcd l.fn.a l.fn.b; left : l.x % 2 ≡ 1; right : l.y % 2 ≡ 1; below : l.y ≤ l.fn.b }

abbrev pub decreases-loop-x : goal.decreases-loop-x
decreases-loop-x l = l.x + l.y
