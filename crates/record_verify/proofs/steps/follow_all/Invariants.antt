use Rattle.std.proofs.Common.{length}
use Rattle.record_verify.proofs.Following.{Leads}
use Rattle.record_verify.proofs.steps.follow_all.Given as goal

-- so many records were followed, and the rest are left
abbrev pub invariant-loop-rest : goal.invariant-loop-rest
invariant-loop-rest l = Leads l.fn.problem l.records.undos l.records.transactions l.problem l.rest l.place

abbrev pub decreases-loop-rest : goal.decreases-loop-rest
decreases-loop-rest l = length l.rest
