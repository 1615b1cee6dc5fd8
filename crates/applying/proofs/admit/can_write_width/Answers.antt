use Rattle.lp_model.proofs.Widths.{width_written}
use Rattle.applying.proofs.admit.can_write_width.Goals as goal

pub returns-in-Ok : goal.returns-in-Ok
returns-in-Ok c = let w = width_written c.args.numbers c.args.lower.now c.args.upper.now c.in-Ok.width c.in-Ok.ensures.value in
    (λ h. w.0 (c.can_write_end.ensures.0 h), λ h. c.can_write_end.ensures.1 (w.1 h))
