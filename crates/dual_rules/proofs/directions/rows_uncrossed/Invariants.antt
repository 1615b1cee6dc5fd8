use Rattle.std.proofs.Common.{◌≡◌, map, length}
use Rattle.problem_model.specs.Matrices.{live_only}
use Rattle.problem_model.specs.Parts.{contents_of}
use Rattle.rule_words.specs.Reading.{sides_of}
use Rattle.dual_laws.specs.Locks.{are_uncrossed}
use Rattle.dual_rules.proofs.directions.rows_uncrossed.Given as goal

-- those so far aren't crossed, so that all depends on those that are left
abbrev pub invariant-loop-rest : goal.invariant-loop-rest
invariant-loop-rest l = are_uncrossed (map (contents_of l.problem) (sides_of (live_only l.problem.matrix.rows l.rest))) ≡ are_uncrossed (map (contents_of l.problem) (sides_of (live_only l.problem.matrix.rows l.entries)))

abbrev pub decreases-loop-rest : goal.decreases-loop-rest
decreases-loop-rest l = length l.rest
