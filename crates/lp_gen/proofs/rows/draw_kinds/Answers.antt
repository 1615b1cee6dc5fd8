use Rattle.std.proofs.Common.{◌+◌, ◌∙◌, ap, refl}
use Rattle.lp_gen.specs.Rows.{kind_of}
use Rattle.lp_gen.proofs.Drawing.{no_draw, state_here, drawn_here}
use Rattle.lp_gen.proofs.Listing.{listed}
use Rattle.lp_gen.proofs.rows.draw_kinds.Goals as goal

pub loop-i-init : goal.loop-i-init
loop-i-init c = record { kinds = c.in_ok-kinds.ensures.items; state = no_draw c.args.draws.now }

pub loop-i-preserved : goal.loop-i-preserved
loop-i-preserved c = record {
  kinds = listed _ _ _ _ c.loop-i.i c.loop-i.invariant.kinds c.in_ok-push.ensures.items (c.kind_of.ensures ∙ ap kind_of (c.draw.ensures.value ∙ drawn_here c.args.draws.now c.loop-i.i 3 c.loop-i.draws c.loop-i.invariant.state));
  state = state_here c.args.draws.now c.loop-i.i 1 (c.loop-i.i + 1) c.loop-i.draws c.draw.new.self c.loop-i.invariant.state c.draw.ensures.state refl;
}
