use Rattle.std.proofs.Common.{sym, ap, ◌∙◌, Ok, Some}
use Rattle.kept_sums.proofs.Numerators.{all_told, all_infinite}
use Rattle.kept_sums.proofs.common.told_activity.Goals as goal

pub returns-then-sum-eq0 : goal.returns-then-sum-eq0
returns-then-sum-eq0 c es h = all_told es c.args.sum.now h c.if-sum-eq0.true ∙ ap (λ q. Ok (Some q)) (sym c.ratio_of.ensures.value) ∙ ap Ok (sym c.at.ensures)

pub returns-else-sum-eq0 : goal.returns-else-sum-eq0
returns-else-sum-eq0 c es h = all_infinite es c.args.sum.now h c.if-sum-eq0.false ∙ ap Ok (sym c.none.ensures)
