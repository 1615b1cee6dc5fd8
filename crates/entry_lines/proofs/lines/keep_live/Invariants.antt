use Rattle.std.proofs.Common.{◌≡◌, ◌+◌, ◌≤◌, ◌++◌, length, vec_capacity}
use Rattle.problem_model.specs.Matrices.{live_only}
use Rattle.entry_lines.proofs.lines.keep_live.Given as goal

-- what was kept, with the live ones of what is left, and room for these
abbrev pub invariant-loop-rest : goal.invariant-loop-rest
invariant-loop-rest l = record {
  kept : l.items.items ++ live_only l.others l.rest ≡ l.fn.items.items ++ live_only l.others l.terms;
  room : length l.items.items + length l.rest ≤ vec_capacity l.items;
}

abbrev pub decreases-loop-rest : goal.decreases-loop-rest
decreases-loop-rest l = length l.rest
