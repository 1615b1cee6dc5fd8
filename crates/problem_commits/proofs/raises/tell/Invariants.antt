use Rattle.std.proofs.Common.{◌≡◌, ◌+◌, ◌≤◌, ◌++◌, length, map, vec_capacity}
use Rattle.std.specs.List.{filter}
use Rattle.problem_commits.specs.Noting.{has_changed}
use Rattle.problem_commits.proofs.raises.tell.Given as goal

-- what was told, with what is left to tell, and room for it
abbrev pub invariant-loop-rest : goal.invariant-loop-rest
invariant-loop-rest l = record {
  told : l.told.items ++ map (λ n. n.part) (filter (has_changed l.problem) l.rest) ≡ l.fn.told.items ++ map (λ n. n.part) (filter (has_changed l.problem) l.notes);
  room : length l.told.items + length l.rest ≤ vec_capacity l.told;
}

abbrev pub decreases-loop-rest : goal.decreases-loop-rest
decreases-loop-rest l = length l.rest
