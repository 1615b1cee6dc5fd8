use Rattle.std.proofs.Common.{ℤ, ap, ◌∙◌}
use Rattle.fractions.specs.Number.{neg_ℚ}
use Rattle.fractions.specs.Lowest.{ratio, neg_ℚ-ratio}
use Rattle.fractions.proofs.frac.Frac.neg.Goals as goal

pub returns : goal.returns
returns c = ap (λ (z : ℤ). ratio z c.self.inside.parts.den) c.negated.ensures ∙ neg_ℚ-ratio _ _ c.self.invariant.positive ∙ ap neg_ℚ c.self.view_is
