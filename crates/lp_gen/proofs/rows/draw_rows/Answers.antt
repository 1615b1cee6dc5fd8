use Rattle.std.proofs.Common.{◌+◌, ◌∙◌, ap, refl, ℕ, get_or}
use Rattle.lp_gen.specs.declared.rows.RowKind.TheVariants.{AtMost}
use Rattle.lp_gen.specs.Rows.{row_with}
use Rattle.lp_gen.proofs.Drawing.{no_draw, state_here, drawn_here}
use Rattle.lp_gen.proofs.Listing.{listed}
use Rattle.lp_gen.proofs.rows.draw_rows.Goals as goal

pub loop-i-init : goal.loop-i-init
loop-i-init c = record { found = c.in_ok-found.ensures.items; state = no_draw c.args.draws.now }

pub loop-i-preserved : goal.loop-i-preserved
loop-i-preserved c = record {
  found =
      listed _ _ _ _ c.loop-i.i c.loop-i.invariant.found c.in_ok-push.ensures.items
      (c.in_ok-row.ensures.row
      ∙ ap (λ (e : ℕ). row_with c.loop-i.i (get_or c.args.kinds.now c.loop-i.i AtMost) (get_or c.args.sums.now c.loop-i.i 0) e) (drawn_here c.args.draws.now c.loop-i.i 5 c.loop-i.draws c.loop-i.invariant.state));
  state = state_here c.args.draws.now c.loop-i.i 1 (c.loop-i.i + 1) c.loop-i.draws c.draw_row.new.draws c.loop-i.invariant.state c.in_ok-row.ensures.state refl;
}
