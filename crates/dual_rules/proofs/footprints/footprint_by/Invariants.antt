use Rattle.std.proofs.Common.{◌≡◌, bit_or, length}
use Rattle.problem_model.specs.Matrices.{live_only}
use Rattle.dual_rules.specs.Footprints.{asked, bits_of, offered}
use Rattle.dual_rules.proofs.footprints.footprint_by.Given as goal

-- the bits so far, and those of what is left
abbrev pub invariant-loop-rest : goal.invariant-loop-rest
invariant-loop-rest l =
    (bit_or l.sets.asked (bits_of (asked l.problem) (live_only l.problem.matrix.rows l.rest)) ≡ bits_of (asked l.problem) (live_only l.problem.matrix.rows l.entries))
    × (bit_or l.sets.offered (bits_of (offered l.problem) (live_only l.problem.matrix.rows l.rest)) ≡ bits_of (offered l.problem) (live_only l.problem.matrix.rows l.entries))

abbrev pub decreases-loop-rest : goal.decreases-loop-rest
decreases-loop-rest l = length l.rest
