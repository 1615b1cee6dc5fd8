use Rattle.std.proofs.Common.{◌≡◌, ◌++◌, length}
use Rattle.std.specs.List.{flat_map}
use Rattle.line_groups.specs.Groups.{lone_at, many_at}
use Rattle.line_groups.proofs.groups.Groups.add_all_lone.Given as goal

-- those so far, and those of the lines that are left
abbrev pub invariant-loop-rest : goal.invariant-loop-rest
invariant-loop-rest l = record {
  ids : l.ids.items ++ flat_map (lone_at l.self) l.rest ≡ l.initial.ids.items ++ flat_map (lone_at l.self) l.lines;
  numbers : l.numbers.items ++ flat_map (many_at l.self) l.rest ≡ flat_map (many_at l.self) l.lines;
}

abbrev pub decreases-loop-rest : goal.decreases-loop-rest
decreases-loop-rest l = length l.rest
