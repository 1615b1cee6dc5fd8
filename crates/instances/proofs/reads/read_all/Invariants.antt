use Rattle.std.proofs.Common.{◌≡◌, map, take}
use Rattle.problem_model.specs.Reading.{read_of}
use Rattle.instances.proofs.reads.read_all.Given as goal

-- those so far
abbrev pub invariant-loop-part : goal.invariant-loop-part
invariant-loop-part l = l.reads.items ≡ map (read_of l.problem) (take l.part-index l.parts)
