use Rattle.std.proofs.Common.{◌≡◌, ◌≤◌, length}
use Rattle.number_texts.specs.Reach.{without_first_zeros}
use Rattle.number_texts.proofs.reach.behind_zeros.Given as goal

abbrev pub invariant-loop-rest : goal.invariant-loop-rest
invariant-loop-rest l = record {
  room : length l.rest ≤ length l.digits;
  value : without_first_zeros l.rest ≡ without_first_zeros l.digits;
}

abbrev pub decreases-loop-rest : goal.decreases-loop-rest
decreases-loop-rest l = length l.rest
