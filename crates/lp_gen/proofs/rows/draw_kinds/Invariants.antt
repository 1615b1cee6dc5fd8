use Rattle.std.proofs.Common.{◌≡◌, map}
use Rattle.std.specs.List.{range_with_len}
use Rattle.lp_gen.specs.Draws.{state_after, drawn}
use Rattle.lp_gen.specs.Rows.{kind_of}
use Rattle.lp_gen.proofs.rows.draw_kinds.Given as goal

-- the types so far
abbrev pub invariant-loop-i : goal.invariant-loop-i
invariant-loop-i l = record {
  kinds : l.kinds.items ≡ map (λ i. kind_of (drawn l.fn.draws i 3)) (range_with_len 0 l.i);
  state : l.draws ≡ state_after l.fn.draws l.i;
}
