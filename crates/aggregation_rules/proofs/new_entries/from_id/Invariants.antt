use Rattle.std.proofs.Common.{◌≡◌, ℕ, ◌≤◌, length}
use Rattle.lp_model.specs.Sparse.{Ascends, dense}
use Rattle.aggregation_rules.proofs.new_entries.from_id.Given as goal

-- from the id on the terms that are left say the same, and they ascend
abbrev pub invariant-loop-rest : goal.invariant-loop-rest
invariant-loop-rest l = ((m : ℕ) → l.id ≤ m → dense l.rest m ≡ dense l.terms m) × ((n : ℕ) → Ascends 0 n l.terms → Ascends 0 n l.rest)

abbrev pub decreases-loop-rest : goal.decreases-loop-rest
decreases-loop-rest l = length l.rest
