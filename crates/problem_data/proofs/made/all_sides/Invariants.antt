use Rattle.std.proofs.Common.{◌≡◌, map, take}
use Rattle.problem_model.specs.Programs.{sides_of}
use Rattle.problem_data.proofs.made.all_sides.Given as goal

-- the sides of the rows so far
abbrev pub invariant-loop-row : goal.invariant-loop-row
invariant-loop-row l = l.sides.items ≡ map sides_of (take l.row-index l.rows)
