use Rattle.std.proofs.Common.{◌≡◌, length}
use Rattle.parallel_column_rules.specs.Walks.{from_live}
use Rattle.parallel_column_rules.proofs.walks.from_live.Given as goal

-- the first that is wanted is among those that are left
abbrev pub invariant-loop-rest : goal.invariant-loop-rest
invariant-loop-rest l = from_live l.lines l.rest ≡ from_live l.lines l.entries

abbrev pub decreases-loop-rest : goal.decreases-loop-rest
decreases-loop-rest l = length l.rest
