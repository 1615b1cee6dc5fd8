use Rattle.std.proofs.Common.{◌∙◌, ap, inl, inr, neg_ℤ}
use Rattle.fractions.proofs.InverseSteps.{inverse_steps, not_below}
use Rattle.fractions.proofs.parts.inverse_parts.Goals as goal
use Rattle.fractions.proofs.parts.inverse_parts.Goals.{then-is_negative, else-is_negative}

pub returns-clause-lowest : goal.returns-clause-lowest
returns-clause-lowest c = (inverse_steps c.args.a.num c.if-is_negative.num c.args.a.den c.size.result c.requires.lowest c.requires.not_zero c.size.ensures.value
    (elim c.if-is_negative.branch [
      | then-is_negative w ↦ inr (c.is_negative.ensures.0 w.if-is_negative.true, w.num-is ∙ w.negated-num.ensures ∙ ap neg_ℤ c.natural-upper.ensures)
      | else-is_negative w ↦ inl (not_below _ _ w.if-is_negative.false c.is_negative.ensures.1, w.num-is ∙ c.natural-upper.ensures)
    ])).0

pub returns-clause-value : goal.returns-clause-value
returns-clause-value c = (inverse_steps c.args.a.num c.if-is_negative.num c.args.a.den c.size.result c.requires.lowest c.requires.not_zero c.size.ensures.value
    (elim c.if-is_negative.branch [
      | then-is_negative w ↦ inr (c.is_negative.ensures.0 w.if-is_negative.true, w.num-is ∙ w.negated-num.ensures ∙ ap neg_ℤ c.natural-upper.ensures)
      | else-is_negative w ↦ inl (not_below _ _ w.if-is_negative.false c.is_negative.ensures.1, w.num-is ∙ c.natural-upper.ensures)
    ])).1
