use Rattle.std.proofs.Common.{sym, ◌∙◌}
use Rattle.fractions.proofs.Floors.{is_whole-is}
use Rattle.lp_model.proofs.plain.is_whole.Goals as goal

pub returns : goal.returns
returns c = ((λ t. (is_whole-is _).0 (sym c.is_whole.ensures ∙ t)), λ h. c.is_whole.ensures ∙ (is_whole-is _).1 h)
