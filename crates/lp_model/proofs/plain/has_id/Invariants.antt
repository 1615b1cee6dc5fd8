use Rattle.std.proofs.Common.{◌≡◌, length}
use Rattle.lp_model.specs.Sparse.{has}
use Rattle.lp_model.proofs.plain.has_id.Given as goal

-- it is among those that are left
abbrev pub invariant-loop-rest : goal.invariant-loop-rest
invariant-loop-rest l = has l.id l.rest ≡ has l.id l.terms

abbrev pub decreases-loop-rest : goal.decreases-loop-rest
decreases-loop-rest l = length l.rest
