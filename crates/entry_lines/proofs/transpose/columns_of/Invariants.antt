use Rattle.std.proofs.Common.{◌≡◌, map, take}
use Rattle.problem_model.specs.Programs.{line_of}
use Rattle.entry_lines.proofs.transpose.columns_of.Given as goal

-- a line of each column so far
abbrev pub invariant-loop-column : goal.invariant-loop-column
invariant-loop-column l = l.lines.items ≡ map (λ c. line_of c.entries) (take l.column-index l.columns)
