use Rattle.std.proofs.Common.{◌≡◌, ◌<◌, ◌+◌, ◌*◌, ℕ, length, get_or}
use Rattle.std.specs.Prelude.{unwrap_or}
use Rattle.lp_gen.specs.Draws.{state_after}
use Rattle.lp_gen.specs.Columns.{terms_of, coefficient_in}
use Rattle.lp_gen.proofs.columns.draw_terms.Given as goal

-- the terms of the entries so far, and the sums with them
abbrev pub invariant-loop-k : goal.invariant-loop-k
invariant-loop-k l = record {
  terms : l.terms.items ≡ terms_of l.fn.draws l.rows l.k;
  state : l.draws ≡ state_after l.fn.draws (2 * l.k);
  rows : length l.sums ≡ l.rows;
  sums : (i : ℕ) → i < l.rows → get_or l.sums i 0 ≡ get_or l.fn.sums i 0 + unwrap_or (coefficient_in l.fn.draws l.rows l.k i) 0;
}
