use Rattle.std.proofs.Common.{take}
use Rattle.problem_model.specs.Reading.{Agrees}
use Rattle.instances.proofs.reading.Reading.agrees.Given as goal

-- the parts before this place stand
abbrev pub invariant-loop-place : goal.invariant-loop-place
invariant-loop-place l = Agrees l.problem (take l.place l.reads)
