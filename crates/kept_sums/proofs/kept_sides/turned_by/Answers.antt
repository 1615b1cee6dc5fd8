use Rattle.std.proofs.Common.{◌+ℤ◌, ℤ, ap, ◌∙◌}
use Rattle.row_spans.specs.Spans.{end_at}
use Rattle.kept_sums.specs.KeptSides.{opposite}
use Rattle.kept_sums.proofs.Replaced.{turned_told}
use Rattle.kept_sums.proofs.kept_sides.turned_by.Goals as goal

pub returns-in-Ok-plus : goal.returns-in-Ok-plus
returns-in-Ok-plus c x s a b own other h =
    turned_told a b c.args.sum.now (end_at x s) (end_at (opposite x) s) c.args.own c.args.other c.in-Ok-plus.numerator h c.if-sum-ne0.false own other
    (c.in-Ok-plus.ensures.1 ∙ ap (λ (z : ℤ). z +ℤ c.args.other) (c.in-Ok.ensures.1 ∙ ap (λ (z : ℤ). c.args.sum.now.total +ℤ z) c.negated.ensures))
