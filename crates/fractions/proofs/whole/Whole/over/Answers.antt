use Rattle.std.proofs.Common.{◌/◌, ap, ◌∙◌, neg_ℤ}
use Rattle.fractions.proofs.LowestTerms.{over_natural, over_negative}
use Rattle.fractions.proofs.InverseSteps.{not_below}
use Rattle.fractions.proofs.whole.Whole.over.Goals as goal

pub returns-then-is_negative-clause-exact : goal.returns-then-is_negative-clause-exact
returns-then-is_negative-clause-exact c = over_negative _ _ _ c.quotient.result c.requires.divides (c.is_negative.ensures.0 c.if-is_negative.true) (c.quotient.ensures ∙ ap (λ n. n / c.args.k) c.size.ensures.value) (c.negated.ensures ∙ ap neg_ℤ c.natural-part.ensures)

pub returns-else-is_negative-clause-exact : goal.returns-else-is_negative-clause-exact
returns-else-is_negative-clause-exact c = over_natural _ _ _ c.quotient.result c.requires.divides (not_below _ _ c.if-is_negative.false c.is_negative.ensures.1) (c.quotient.ensures ∙ ap (λ n. n / c.args.k) c.size.ensures.value) c.natural-part.ensures
