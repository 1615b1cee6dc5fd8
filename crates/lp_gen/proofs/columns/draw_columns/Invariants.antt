use Rattle.std.proofs.Common.{◌≡◌, ◌<◌, ◌*◌, ℕ, length, map, get_or}
use Rattle.std.specs.List.{range_with_len}
use Rattle.lp_gen.specs.Draws.{state_after}
use Rattle.lp_gen.specs.Columns.{column_of, coefficient_sum}
use Rattle.lp_gen.proofs.columns.draw_columns.Given as goal

-- the columns so far, and the sums of their coefficients
abbrev pub invariant-loop-j : goal.invariant-loop-j
invariant-loop-j l = record {
  columns : l.found.items ≡ map (column_of l.fn.draws l.rows) (range_with_len 0 l.j);
  state : l.draws ≡ state_after l.fn.draws (7 * l.j);
  rows : length l.sums ≡ l.rows;
  sums : (i : ℕ) → i < l.rows → get_or l.sums i 0 ≡ coefficient_sum l.fn.draws l.rows l.j i;
}
