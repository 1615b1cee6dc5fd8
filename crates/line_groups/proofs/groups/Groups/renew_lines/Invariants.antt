use Rattle.std.proofs.Common.{take}
use Rattle.line_groups.specs.Groups.{IsTable}
use Rattle.line_groups.specs.Steps.{RenewsLines, count_in}
use Rattle.line_groups.proofs.groups.Groups.renew_lines.Given as goal

-- the lines so far are renewed
abbrev pub invariant-loop-line : goal.invariant-loop-line
invariant-loop-line l = IsTable l.initial.self (count_in l.kind l.problem) → RenewsLines l.initial.self l.self l.problem l.kind (take l.line-index l.lines)
