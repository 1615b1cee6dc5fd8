use Rattle.std.proofs.Common.{sym, ap₂, ◌∙◌}
use Rattle.fractions.specs.Compare.{number_cmp, number_cmp-ratio}
use Rattle.fractions.proofs.frac.FracOrd.cmp.Goals as goal

pub returns : goal.returns
returns c = c.compare_parts.ensures ∙ sym (number_cmp-ratio _ _ _ _ c.self.invariant.positive c.other.invariant.positive) ∙ ap₂ number_cmp c.self.view_is c.other.view_is
