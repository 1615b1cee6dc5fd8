use Rattle.std.proofs.Common.{◌↔◌, length}
use Rattle.problem_model.specs.Offsets.{OffsetFits}
use Rattle.applying.proofs.admit.offset_fits.Given as goal

-- the sums that are left decide
abbrev pub invariant-loop-rest : goal.invariant-loop-rest
invariant-loop-rest l = OffsetFits l.fn.offset l.edits ↔ OffsetFits l.sum l.rest

abbrev pub decreases-loop-rest : goal.decreases-loop-rest
decreases-loop-rest l = length l.rest
