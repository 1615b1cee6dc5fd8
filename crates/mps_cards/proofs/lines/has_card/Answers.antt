use Rattle.std.proofs.Common.{◌∙◌, sym}
use Rattle.mps_cards.proofs.LineKinds.{next-is}
use Rattle.mps_cards.proofs.lines.has_card.Goals as goal

pub loop-rest-preserved : goal.loop-rest-preserved
loop-rest-preserved c = sym (next-is c.loop-rest.rest.now c.first_line.result.1.now _ _ c.first_line.ensures.first c.in-Blank.ensures) ∙ c.loop-rest.invariant
