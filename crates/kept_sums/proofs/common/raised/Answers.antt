use Rattle.std.proofs.Common.{◌*◌, ◌*ℤ◌, ℕ, pos, refl, ap, ◌∙◌}
use Rattle.kept_sums.proofs.Numerators.{sum_raised}
use Rattle.kept_sums.proofs.common.raised.Goals as goal

pub returns-clause-value : goal.returns-clause-value
returns-clause-value c es h = sum_raised es c.args.sum.now _ c.args.other h c.in_ok-denominator.ensures
    (c.in-Ok.ensures.1 ∙ ap (λ (n : ℕ). c.args.sum.now.total *ℤ pos n) c.quotient-scale.ensures)
    (c.in_ok-spread.ensures.1 ∙ ap (λ (n : ℕ). c.args.sum.now.sizes * n) c.quotient-scale.ensures) c.if-spread.false refl
