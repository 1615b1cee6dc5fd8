use Rattle.std.proofs.Common.{◌≡◌, ℕ, ◌+◌, ◌*◌, ◌∙◌, ap, sym, arith}
use Rattle.std.specs.Prelude.{unwrap_or}
use Rattle.lp_gen.specs.Columns.{column_from, coefficient_in, entries_seed, coefficient_sum}
use Rattle.lp_gen.proofs.Drawing.{no_draw, state_here}
use Rattle.lp_gen.proofs.Listing.{listed}
use Rattle.lp_gen.proofs.Summing.{sum_small, sum_more}
use Rattle.lp_gen.proofs.columns.draw_columns.Goals as goal

pub loop-j-init : goal.loop-j-init
loop-j-init c = record { columns = c.in_ok-found.ensures.items; state = no_draw c.args.draws.now; rows = c.requires.rows; sums = c.requires.none }

pub draw_column-requires-clause-small : goal.draw_column-requires-clause-small
draw_column-requires-clause-small c = λ i l. omega (arith, c.loop-j.invariant.sums i l, sum_small c.args.draws.now c.args.rows c.loop-j.j i, c.loop-j-test.true, c.requires.few)

pub loop-j-preserved : goal.loop-j-preserved
loop-j-preserved c =
    let e : 7 * c.loop-j.j + 7 ≡ 7 * (c.loop-j.j + 1) = omega arith in
    record {
      columns = listed _ _ _ _ c.loop-j.j c.loop-j.invariant.columns c.in_ok-push.ensures.items (c.in_ok-column.ensures.column ∙ ap (λ (s : ℕ). column_from s c.args.rows c.loop-j.j) c.loop-j.invariant.state);
      state = state_here c.args.draws.now (7 * c.loop-j.j) 7 (7 * (c.loop-j.j + 1)) c.loop-j.draws c.draw_column.new.draws c.loop-j.invariant.state c.in_ok-column.ensures.state e;
      rows = c.in_ok-column.ensures.rows;
      sums = λ i l.
          c.in_ok-column.ensures.sums i l
          ∙ ap (λ (s : ℕ). s + unwrap_or (coefficient_in (entries_seed c.loop-j.draws) c.args.rows 3 i) 0) (c.loop-j.invariant.sums i l)
          ∙ ap (λ (s : ℕ). coefficient_sum c.args.draws.now c.args.rows c.loop-j.j i + unwrap_or (coefficient_in (entries_seed s) c.args.rows 3 i) 0) c.loop-j.invariant.state
          ∙ sym (sum_more c.args.draws.now c.args.rows c.loop-j.j i);
    }
