use Rattle.std.proofs.Common.{◌≡◌, ◌+◌, ◌-◌, ◌≤◌, ℕ, arith, nat_abs, refl, ap, ◌∙◌}
use Rattle.kept_sums.proofs.Numerators.{number_less}
use Rattle.kept_sums.proofs.common.without_number.Goals as goal

pub returns-clause-value : goal.returns-clause-value
returns-clause-value c a b h =
    number_less a b c.args.number.now c.args.sum.now _ h refl c.in_ok-total.ensures
    (by _ _ _ _ c.in_ok-checked_sub.ensures.0 c.in_ok-checked_sub.ensures.1 (c.size.ensures.value ∙ ap nat_abs c.in_ok-term.ensures)) refl
  where
    by : (m n x y : ℕ) → x ≤ n → m ≡ n - x → x ≡ y → n ≡ m + y
    by m n x y l e f = omega (arith, l, e, f)
