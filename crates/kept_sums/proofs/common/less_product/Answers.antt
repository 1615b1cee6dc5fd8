use Rattle.std.proofs.Common.{sym, ap, ◌∙◌, Ok}
use Rattle.fractions.specs.Number.{◌*ℚ◌}
use Rattle.kept_sums.proofs.Numerators.{rest_infinite}
use Rattle.kept_sums.proofs.common.less_product.Goals as goal

pub returns-then-sum-ne0 : goal.returns-then-sum-ne0
returns-then-sum-ne0 c a b h = rest_infinite a b c.args.sum.now (c.args.value.now *ℚ c.args.bound.now) h c.if-sum-ne0.true ∙ ap Ok (sym c.none.ensures)
