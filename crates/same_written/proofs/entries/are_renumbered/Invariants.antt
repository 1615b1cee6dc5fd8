use Rattle.std.proofs.Common.{◌≡◌, ◌↔◌, length}
use Rattle.problem_model.specs.Programs.{renumbered}
use Rattle.same_written.proofs.entries.are_renumbered.Given as goal

-- the terms are what is written where what is left of them is
abbrev pub invariant-loop-rest : goal.invariant-loop-rest
invariant-loop-rest l = (l.left ≡ renumbered l.rows l.rest) ↔ (l.terms ≡ renumbered l.rows l.originals)

abbrev pub decreases-loop-rest : goal.decreases-loop-rest
decreases-loop-rest l = length l.rest
