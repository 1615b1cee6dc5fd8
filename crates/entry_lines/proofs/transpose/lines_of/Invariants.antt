use Rattle.std.proofs.Common.{◌≡◌, map}
use Rattle.problem_model.specs.Programs.{line_of}
use Rattle.entry_lines.proofs.transpose.lines_of.Given as goal

-- a line of each list so far
abbrev pub invariant-loop-entries : goal.invariant-loop-entries
invariant-loop-entries l = l.lines.items ≡ map line_of l.yielded
