use Rattle.std.proofs.Common.{sym, ap, ◌∙◌, Ok, Some}
use Rattle.kept_sums.proofs.Numerators.{rest_one, rest_more}
use Rattle.kept_sums.proofs.common.less_infinite.Goals as goal

pub returns-then-sum-eq1 : goal.returns-then-sum-eq1
returns-then-sum-eq1 c a b h = rest_one a b c.args.sum.now h c.if-sum-eq1.true ∙ ap (λ q. Ok (Some q)) (sym c.ratio_of.ensures.value) ∙ ap Ok (sym c.at.ensures)

pub returns-else-sum-eq1 : goal.returns-else-sum-eq1
returns-else-sum-eq1 c a b h = rest_more a b c.args.sum.now h c.if-sum-eq1.false ∙ ap Ok (sym c.none.ensures)
