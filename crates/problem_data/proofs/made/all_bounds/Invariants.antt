use Rattle.std.proofs.Common.{◌≡◌, map, take}
use Rattle.problem_model.specs.Programs.{bounds_of}
use Rattle.problem_data.proofs.made.all_bounds.Given as goal

-- the bounds of the columns so far
abbrev pub invariant-loop-column : goal.invariant-loop-column
invariant-loop-column l = l.bounds.items ≡ map bounds_of (take l.column-index l.columns)
