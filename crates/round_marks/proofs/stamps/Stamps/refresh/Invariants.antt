use Rattle.std.proofs.Common.{◌≡◌, length}
use Rattle.round_marks.specs.Stamping.{restamped}
use Rattle.round_marks.proofs.stamps.Stamps.refresh.Given as goal

-- with the parts that are left, all are put right
abbrev pub invariant-loop-rest : goal.invariant-loop-rest
invariant-loop-rest l = restamped l.self l.problem l.rest ≡ restamped l.initial.self l.problem l.parts

abbrev pub decreases-loop-rest : goal.decreases-loop-rest
decreases-loop-rest l = length l.rest
