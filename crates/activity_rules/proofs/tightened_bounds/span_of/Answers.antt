use Rattle.std.proofs.Common.{◌∙◌, List, get_or, ap}
use Rattle.row_spans.specs.declared.span.Span.{Span}
use Rattle.activity_rules.proofs.Tightened.{none_zero}
use Rattle.activity_rules.proofs.tightened_bounds.span_of.Goals as goal

pub returns-clause-some : goal.returns-clause-some
returns-clause-some c = none_zero 0 c.args.sums.now c.args.place c.index-spans-place.result c.spans.ensures.spans c.requires (c.index-spans-place.is ∙ ap (λ (ss : List Span). get_or ss c.args.place c.index-spans-place.result) c.spans.ensures.value)
