use Rattle.std.proofs.Common.{◌≡◌, Option, Ok, None, IfNone, IfSome, sym, ap, ◌∙◌, subst}
use Rattle.fractions.specs.Number.{Number}
use Rattle.row_spans.specs.RowSums.{activity}
use Rattle.row_spans.specs.Spans.{spans_of}
use Rattle.row_spans.proofs.Reading.{spans_of-are}
use Rattle.coef_laws.specs.CoefficientTightening.{extreme_of}
use Rattle.coef_rules.specs.Columns.{any_longer, IsExcess}
use Rattle.coef_rules.proofs.Excess.{none_infinite, none_longer, none_passed}
use Rattle.coef_rules.proofs.listing.may_shrink.Goals as goal

pub returns-in-Ok-None : goal.returns-in-Ok-None
returns-in-Ok-None c h = none_infinite c.args.side c.args.limit.now (spans_of c.args.problem.now c.args.row) (spans_of-are c.args.problem.now c.args.row c.is_sparse.ensures) (subst (λ (o : Option Number). IfNone o (activity (extreme_of c.args.side) (spans_of c.args.problem.now c.args.row) ≡ Ok None)) c.in-Ok-None.field-0-is c.in-Ok-None.ensures.none)

pub returns-then-is_positive : goal.returns-then-is_positive
returns-then-is_positive c h = none_longer c.args.problem.now c.args.row c.args.side c.args.limit.now c.in-Ok-Some.excess (spans_of-are c.args.problem.now c.args.row c.is_sparse.ensures) (subst (λ (o : Option Number). IfSome o (λ x. IsExcess c.args.side c.args.limit.now (spans_of c.args.problem.now c.args.row) x)) c.in-Ok-Some.field-0-is c.in-Ok-Some.ensures.some)
    (sym (c.some_longer.ensures ∙ ap (any_longer c.in-Ok-Some.excess) c.entries_of.ensures) ∙ h)

pub returns-else-is_positive : goal.returns-else-is_positive
returns-else-is_positive c h = none_passed c.args.side c.args.limit.now c.in-Ok-Some.excess (spans_of c.args.problem.now c.args.row) (spans_of-are c.args.problem.now c.args.row c.is_sparse.ensures) (subst (λ (o : Option Number). IfSome o (λ x. IsExcess c.args.side c.args.limit.now (spans_of c.args.problem.now c.args.row) x)) c.in-Ok-Some.field-0-is c.in-Ok-Some.ensures.some)
    (sym c.is_positive.ensures ∙ h)
