use Rattle.std.proofs.Common.{◌≡◌, length}
use Rattle.round_laws.specs.Passing.{are_unchanged}
use Rattle.round_marks.specs.Stamping.{stamp_at}
use Rattle.round_marks.proofs.stamps.Stamps.stand_for.Given as goal

-- the parts that are left decide
abbrev pub invariant-loop-rest : goal.invariant-loop-rest
invariant-loop-rest l = are_unchanged (stamp_at l.self) l.problem l.rest ≡ are_unchanged (stamp_at l.self) l.problem l.parts

abbrev pub decreases-loop-rest : goal.decreases-loop-rest
decreases-loop-rest l = length l.rest
