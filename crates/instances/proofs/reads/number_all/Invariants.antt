use Rattle.std.proofs.Common.{◌≡◌, map, take}
use Rattle.presolve_model.specs.Transactions.{numbered}
use Rattle.instances.proofs.reads.number_all.Given as goal

-- those so far
abbrev pub invariant-loop-part : goal.invariant-loop-part
invariant-loop-part l = l.reads.items ≡ map (numbered l.problem) (take l.part-index l.parts)
