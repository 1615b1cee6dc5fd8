use Rattle.std.proofs.Common.{◌≡◌, map, get_or}
use Rattle.std.specs.List.{range_with_len}
use Rattle.lp_gen.specs.declared.rows.RowKind.TheVariants.{AtMost}
use Rattle.lp_gen.specs.Draws.{state_after, drawn}
use Rattle.lp_gen.specs.Rows.{row_with}
use Rattle.lp_gen.proofs.rows.draw_rows.Given as goal

-- the rows so far
abbrev pub invariant-loop-i : goal.invariant-loop-i
invariant-loop-i l = record {
  found : l.found.items ≡ map (λ i. row_with i (get_or l.kinds i AtMost) (get_or l.sums i 0) (drawn l.fn.draws i 5)) (range_with_len 0 l.i);
  state : l.draws ≡ state_after l.fn.draws l.i;
}
