use Rattle.std.proofs.Common.{◌≡◌, ◌↔◌, length, map}
use Rattle.presolve_model.specs.Transactions.{numbered}
use Rattle.record_verify.proofs.readings.tell_parts.Given as goal

-- the parts are told where those that are left are
abbrev pub invariant-loop-rest : goal.invariant-loop-rest
invariant-loop-rest l = (l.rest ≡ map (numbered l.fn.problem) l.left) ↔ (l.fn.reads ≡ map (numbered l.fn.problem) l.fn.parts)

abbrev pub decreases-loop-rest : goal.decreases-loop-rest
decreases-loop-rest l = length l.rest
