use Rattle.std.proofs.Common.{◌≡◌, ◌↔◌, length}
use Rattle.problem_model.specs.Matrices.{live_only}
use Rattle.problem_commits.proofs.contents.live_entries_are.Given as goal

-- the live entries are those wanted where what is left of them is what is left of those
abbrev pub invariant-loop-rest : goal.invariant-loop-rest
invariant-loop-rest l = (live_only l.others l.rest ≡ l.left) ↔ (live_only l.others l.entries ≡ l.wanted)

abbrev pub decreases-loop-rest : goal.decreases-loop-rest
decreases-loop-rest l = length l.rest
