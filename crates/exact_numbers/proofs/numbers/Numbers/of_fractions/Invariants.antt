use Rattle.std.proofs.Common.{◌≡◌, map, take}
use Rattle.exact_numbers.proofs.numbers.Numbers.of_fractions.Given as goal

abbrev pub invariant-loop-fraction : goal.invariant-loop-fraction
invariant-loop-fraction g l = map g.T.Exact.number l.values.items ≡ take l.fraction-index l.fractions
