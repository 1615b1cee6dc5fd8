use Rattle.std.proofs.Common.{◌≡◌, ◌++◌, length}
use Rattle.std.specs.List.{All}
use Rattle.problem_model.specs.Matrices.{live_only}
use Rattle.dual_rules.specs.Footprints.{AreFootprints}
use Rattle.dual_rules.specs.Pairs.{IsStanding, entries_of}
use Rattle.dual_rules.proofs.dominated_column.standings.Given as goal

-- those of the terms so far, so that with those that are left they are all
abbrev pub invariant-loop-rest : goal.invariant-loop-rest
invariant-loop-rest l =
    All (IsStanding l.problem) l.found.items × ((entries_of l.found.items ++ live_only l.problem.matrix.columns l.rest ≡ live_only l.problem.matrix.columns l.terms) × AreFootprints l.problem l.footprints)

abbrev pub decreases-loop-rest : goal.decreases-loop-rest
decreases-loop-rest l = length l.rest
