use Rattle.std.proofs.Common.{◌≡◌, ◌+◌, ◌-◌, ◌≤◌, ℕ, arith, refl}
use Rattle.kept_sums.proofs.Numerators.{infinite_less}
use Rattle.kept_sums.proofs.common.without_infinite.Goals as goal

pub returns-clause-value : goal.returns-clause-value
returns-clause-value c a b h = infinite_less a b c.args.sum.now _ h refl refl refl (by _ _ c.in_ok-checked_sub.ensures.0 c.in_ok-checked_sub.ensures.1)
  where
    by : (m n : ℕ) → 1 ≤ n → m ≡ n - 1 → n ≡ m + 1
    by m n l e = omega (arith, l, e)
