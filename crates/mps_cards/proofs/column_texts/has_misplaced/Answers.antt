use Rattle.std.proofs.Common.{◌∙◌, sym, ap, arith}
use Rattle.std.proofs.lemmas.Grind.{common_steps}
use Rattle.mps_profile.specs.Fields.{misplaced_from}
use Rattle.mps_cards.proofs.Misplaced.{misplaced-next, front-short}
use Rattle.mps_cards.proofs.column_texts.has_misplaced.Goals as goal

pub loop-left-init : goal.loop-left-init
loop-left-init c = (ap (misplaced_from 0) c.front-left.ensures, front-short 61 c.front-left.result.now c.args.line.now c.front-left.ensures)

pub loop-left-preserved : goal.loop-left-preserved
loop-left-preserved c = grind (arith, common_steps, misplaced-next c.loop-left.column c.loop-left.left.now c.in-len1-up.len_at_least (sym c.is_misplaced.ensures ∙ c.if-is_misplaced.false), c.loop-left.invariant.0, c.loop-left.invariant.1)
