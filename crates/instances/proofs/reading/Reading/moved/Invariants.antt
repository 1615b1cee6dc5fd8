use Rattle.std.proofs.Common.{take}
use Rattle.instances.specs.Moved.{NumbersStand}
use Rattle.instances.proofs.reading.Reading.moved.Given as goal

-- the parts before this place have changed as often as they had
abbrev pub invariant-loop-place : goal.invariant-loop-place
invariant-loop-place l = NumbersStand l.problem (take l.place l.reads)
