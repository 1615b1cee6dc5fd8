use Rattle.std.proofs.Common.{sym, ◌∙◌}
use Rattle.fractions.proofs.Floors.{is_whole-is}
use Rattle.lp_check.proofs.limits.is_whole.Goals as goal

pub returns : goal.returns
returns g c = ((λ t. (is_whole-is _).0 (sym c.is_whole.ensures ∙ t)), λ h. c.is_whole.ensures ∙ (is_whole-is _).1 h)
