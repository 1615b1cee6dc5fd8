use Rattle.std.proofs.Common.{◌≡◌, ◌++◌, length}
use Rattle.std.specs.List.{flat_map}
use Rattle.line_groups.specs.Steps.{lines_in}
use Rattle.line_groups.proofs.groups.Kind.all_lines_of.Given as goal

-- those so far, and those of the parts that are left
abbrev pub invariant-loop-rest : goal.invariant-loop-rest
invariant-loop-rest l = l.lines.items ++ flat_map (lines_in l.self) l.rest ≡ flat_map (lines_in l.self) l.parts

abbrev pub decreases-loop-rest : goal.decreases-loop-rest
decreases-loop-rest l = length l.rest
