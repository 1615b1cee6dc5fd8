use Rattle.std.proofs.Common.{sym, ap, ◌∙◌}
use Rattle.fractions.specs.Number.{of_ℤ, neg_ℚ, of_ℤ-neg_ℤ}
use Rattle.fractions.specs.Floor.{floor_of, ceil_of}
use Rattle.fractions.proofs.frac.Frac.ceil.Goals as goal

pub returns : goal.returns
unfolding ceil_of
returns c = c.neg-2.ensures ∙ ap neg_ℚ (c.floor.ensures ∙ ap (λ q. of_ℤ (floor_of q)) c.neg.ensures) ∙ sym (of_ℤ-neg_ℤ _)
