use Rattle.std.proofs.Common.{◌+◌, refl, ap, ◌∙◌}
use Rattle.kept_sums.proofs.Numerators.{number_over_more}
use Rattle.kept_sums.proofs.common.plus_numerator.Goals as goal

pub returns-clause-value : goal.returns-clause-value
returns-clause-value c q a b u o h =
    number_over_more a b q c.args.sum.now _ c.args.numerator h u o refl c.in-Ok.ensures.1
    (c.in_ok-sizes.ensures.1 ∙ ap (λ n. c.args.sum.now.sizes + n) c.size.ensures.value)
    c.if-sizes.false refl
