use Rattle.std.proofs.Common.{◌≡◌, ◌++◌, map, length}
use Rattle.run_report.specs.Counts.{rule_count}
use Rattle.run_report.proofs.counts.each_count.Given as goal

-- those so far, and those of the rules that are left
abbrev pub invariant-loop-rest : goal.invariant-loop-rest
invariant-loop-rest l = l.counts.items ++ map (rule_count l.applied l.refused l.left) l.rest ≡ map (rule_count l.applied l.refused l.left) l.rules

abbrev pub decreases-loop-rest : goal.decreases-loop-rest
decreases-loop-rest l = length l.rest
