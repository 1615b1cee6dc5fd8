use Rattle.std.proofs.Common.{◌≡◌, map, length}
use Rattle.problem_model.specs.Matrices.{live_only}
use Rattle.problem_model.specs.Parts.{contents_of}
use Rattle.rule_words.specs.Reading.{sides_of}
use Rattle.dual_laws.specs.Locks.{all_take}
use Rattle.dual_rules.specs.Directions.{takes}
use Rattle.dual_rules.proofs.directions.rows_take.Given as goal

-- the entries so far take it, so that all depends on those that are left
abbrev pub invariant-loop-rest : goal.invariant-loop-rest
invariant-loop-rest l = all_take (takes l.direction) (live_only l.problem.matrix.rows l.rest) (map (contents_of l.problem) (sides_of (live_only l.problem.matrix.rows l.rest)))
    ≡ all_take (takes l.direction) (live_only l.problem.matrix.rows l.entries) (map (contents_of l.problem) (sides_of (live_only l.problem.matrix.rows l.entries)))

abbrev pub decreases-loop-rest : goal.decreases-loop-rest
decreases-loop-rest l = length l.rest
