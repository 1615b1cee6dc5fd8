use Rattle.std.proofs.Common.{◌≡◌, map, take}
use Rattle.problem_data.proofs.changes.of_sides.Given as goal

-- those so far
abbrev pub invariant-loop-sides : goal.invariant-loop-sides
invariant-loop-sides l = l.stamps.items ≡ map (λ x. x.changes) (take l.sides-index l.all)
