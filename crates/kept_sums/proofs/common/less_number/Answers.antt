use Rattle.std.proofs.Common.{sym, ap, ◌∙◌, Ok, Some}
use Rattle.fractions.specs.Lowest.{ratio}
use Rattle.kept_sums.proofs.Numerators.{rest_finite}
use Rattle.kept_sums.proofs.common.less_number.Goals as goal

pub returns : goal.returns
returns c a b h =
    rest_finite a b c.args.sum.now c.args.number.now h c.requires.finite
    ∙ ap (λ z. Ok (Some (ratio z c.args.sum.now.denominator))) (sym c.in_ok-rest.ensures)
    ∙ ap (λ q. Ok (Some q)) (sym c.ratio_of.ensures.value)
    ∙ ap Ok (sym c.at.ensures)
