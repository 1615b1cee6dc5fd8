use Rattle.std.proofs.Common.{◌∙◌}
use Rattle.simplex_steps.proofs.Moving.{sign_up, sign_down}
use Rattle.simplex_steps.proofs.choices.signed.Goals as goal

pub returns-then-up-clause-left : goal.returns-then-up-clause-left
returns-then-up-clause-left c = (sign_up c.args.number.now c.args.up c.if-up.true).0

pub returns-then-up-clause-right : goal.returns-then-up-clause-right
returns-then-up-clause-right c = (sign_up c.args.number.now c.args.up c.if-up.true).1

pub returns-else-up-clause-left : goal.returns-else-up-clause-left
returns-else-up-clause-left c = c.neg.ensures ∙ (sign_down c.args.number.now c.args.up c.if-up.false).0

pub returns-else-up-clause-right : goal.returns-else-up-clause-right
returns-else-up-clause-right c = c.neg.ensures ∙ (sign_down c.args.number.now c.args.up c.if-up.false).1
