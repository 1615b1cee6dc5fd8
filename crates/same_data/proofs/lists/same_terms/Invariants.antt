use Rattle.std.proofs.Common.{◌≡◌, ◌↔◌, length}
use Rattle.same_data.proofs.lists.same_terms.Given as goal

-- the lists are the same where what is left of them is
abbrev pub invariant-loop-rest : goal.invariant-loop-rest
invariant-loop-rest l = (l.rest ≡ l.left) ↔ (l.fn.one ≡ l.fn.other)

abbrev pub decreases-loop-rest : goal.decreases-loop-rest
decreases-loop-rest l = length l.rest
