use Rattle.std.proofs.Common.{◌≡◌, ◌++◌, length}
use Rattle.std.specs.List.{flat_map}
use Rattle.line_groups.specs.Groups.{ids_in}
use Rattle.line_groups.proofs.groups.Groups.add_groups.Given as goal

-- those so far, and those of the groups that are left
abbrev pub invariant-loop-rest : goal.invariant-loop-rest
invariant-loop-rest l = l.ids.items ++ flat_map (ids_in l.self) l.rest ≡ l.initial.ids.items ++ flat_map (ids_in l.self) l.numbers

abbrev pub decreases-loop-rest : goal.decreases-loop-rest
decreases-loop-rest l = length l.rest
