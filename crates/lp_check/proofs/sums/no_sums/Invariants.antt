use Rattle.std.proofs.Common.{◌≡◌, length}
use Rattle.std.specs.Prelude.{All}
use Rattle.lp_check.specs.Summing.{IsNoSum}
use Rattle.lp_check.proofs.sums.no_sums.Given as goal

-- a sum of no products for each row so far
abbrev pub invariant-loop : goal.invariant-loop
invariant-loop g l = record {
  long : length l.sums.items ≡ l.index;
  each : All (IsNoSum g.T.Exact.number) l.sums.items;
}
