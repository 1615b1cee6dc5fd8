use Rattle.std.proofs.Common.{◌≡◌, length}
use Rattle.txn_book.proofs.row_lists.same_terms.Given as goal

-- where what is left is the same, the lists are
abbrev pub invariant-loop-rest : goal.invariant-loop-rest
invariant-loop-rest l = l.rest ≡ l.left → l.fn.a ≡ l.fn.b

abbrev pub decreases-loop-rest : goal.decreases-loop-rest
decreases-loop-rest l = length l.rest
