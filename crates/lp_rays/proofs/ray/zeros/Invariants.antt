use Rattle.std.proofs.Common.{◌≡◌, replicate}
use Rattle.fractions.specs.Number.{zero_ℚ}
use Rattle.lp_rays.proofs.ray.zeros.Given as goal

abbrev pub invariant-loop : goal.invariant-loop
invariant-loop l = l.numbers.items ≡ replicate l.counter zero_ℚ
