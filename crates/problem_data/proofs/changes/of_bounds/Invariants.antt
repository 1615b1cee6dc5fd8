use Rattle.std.proofs.Common.{◌≡◌, map, take}
use Rattle.problem_data.proofs.changes.of_bounds.Given as goal

-- those so far
abbrev pub invariant-loop-bounds : goal.invariant-loop-bounds
invariant-loop-bounds l = l.stamps.items ≡ map (λ x. x.changes) (take l.bounds-index l.all)
