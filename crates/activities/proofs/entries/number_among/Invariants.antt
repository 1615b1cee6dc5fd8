use Rattle.std.proofs.Common.{◌≡◌, ℕ, length}
use Rattle.lp_model.specs.Sparse.{Ascends, dense}
use Rattle.activities.proofs.entries.number_among.Given as goal

-- what is left ascends, and has the number
abbrev pub invariant-loop-rest : goal.invariant-loop-rest
invariant-loop-rest l = (n : ℕ) → Ascends 0 n l.terms → Ascends 0 n l.rest × (dense l.rest l.id ≡ dense l.terms l.id)

abbrev pub decreases-loop-rest : goal.decreases-loop-rest
decreases-loop-rest l = length l.rest
