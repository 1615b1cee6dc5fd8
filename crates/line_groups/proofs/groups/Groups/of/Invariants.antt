use Rattle.std.proofs.Common.{◌≡◌, ℕ, ◌<◌, Some}
use Rattle.line_groups.specs.Groups.{IsTable, StandsUnder}
use Rattle.line_groups.specs.Steps.{count_in, key_by}
use Rattle.line_groups.proofs.groups.Groups.of.Given as goal

-- the lines so far stand in their groups
abbrev pub invariant-loop-id : goal.invariant-loop-id
invariant-loop-id l = record {
  table : IsTable l.groups (count_in l.kind l.problem);
  each : (k m : ℕ) → k < l.id → key_by l.problem l.kind k ≡ Some m → StandsUnder l.groups m k;
}
