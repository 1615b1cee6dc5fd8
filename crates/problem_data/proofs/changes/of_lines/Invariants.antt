use Rattle.std.proofs.Common.{◌≡◌, map, take}
use Rattle.problem_data.proofs.changes.of_lines.Given as goal

-- those so far
abbrev pub invariant-loop-line : goal.invariant-loop-line
invariant-loop-line l = l.stamps.items ≡ map (λ x. x.changes) (take l.line-index l.lines)
