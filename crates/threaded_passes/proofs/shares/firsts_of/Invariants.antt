use Rattle.std.proofs.Common.{◌≡◌}
use Rattle.std.specs.List.{range_with_len}
use Rattle.threaded_passes.proofs.shares.firsts_of.Given as goal

-- those so far
abbrev pub invariant-loop-first : goal.invariant-loop-first
invariant-loop-first l = l.firsts.items ≡ range_with_len 0 l.first
