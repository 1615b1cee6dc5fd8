use Rattle.std.proofs.Common.{◌≡◌, ◌*◌, ◌%◌, ◌≤◌}
use Rattle.fractions.specs.Gcd.{gcd}
use Rattle.fractions.proofs.divisor.five_gcd.Given as goal

abbrev pub invariant-loop-y : goal.invariant-loop-y
invariant-loop-y l = record {
  same : gcd l.x l.y * l.fives ≡ gcd l.fn.a l.fn.b;
  left : l.x % 2 ≡ 1;
  right : l.y % 2 ≡ 1;
  below : l.fives * l.y ≤ l.fn.b;
}

abbrev pub decreases-loop-y : goal.decreases-loop-y
decreases-loop-y l = l.y
