use Rattle.std.proofs.Common.{◌*◌, ◌/◌, ℕ, Option, Some, None, IfNone, ap, ◌∙◌}
use Rattle.kept_sums.proofs.Totals.{least_multiple_is, multiple_past, product_past}
use Rattle.kept_sums.proofs.row_totals.least_multiple.Goals as goal

pub returns-in_err-multiple-clause-none : goal.returns-in_err-multiple-clause-none
returns-in_err-multiple-clause-none c = at c.from_residual.result (multiple_past c.args.common c.args.other (c.args.common * c.quotient-part.result) c.requires.common (ap (λ (n : ℕ). c.args.common * n) (c.quotient-part.ensures ∙ ap (λ (n : ℕ). c.args.other / n) c.gcd.ensures.value)) (product_past _ c.in_err-multiple.ensures))
  where
    at : {X : Type 0} (o : Option ℕ) → X → IfNone o X
    at None x = x
    at (Some n) x = tt

pub returns-then-multiple-clause-none : goal.returns-then-multiple-clause-none
returns-then-multiple-clause-none c =
    multiple_past c.args.common c.args.other _ c.requires.common (c.in_ok-multiple.ensures.1 ∙ ap (λ (n : ℕ). c.args.common * n) (c.quotient-part.ensures ∙ ap (λ (n : ℕ). c.args.other / n) c.gcd.ensures.value)) c.if-multiple.true

pub returns-clause-some : goal.returns-clause-some
returns-clause-some c =
    least_multiple_is c.args.common c.args.other _ c.requires.common c.requires.other (c.in_ok-multiple.ensures.1 ∙ ap (λ (n : ℕ). c.args.common * n) (c.quotient-part.ensures ∙ ap (λ (n : ℕ). c.args.other / n) c.gcd.ensures.value)) c.if-multiple.false
