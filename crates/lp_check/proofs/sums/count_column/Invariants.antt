use Rattle.std.proofs.Common.{◌≡◌, ℕ, ◌<◌, length}
use Rattle.lp_model.specs.Vectors.{Vector}
use Rattle.lp_model.specs.Sparse.{dense}
use Rattle.lp_check.specs.Summing.{IsRowSumIn, sum_of}
use Rattle.lp_check.proofs.Counting.{Counting}
use Rattle.lp_check.proofs.sums.count_column.Given as goal

-- each row's sum, by the entries so far
abbrev pub invariant-loop-entry : goal.invariant-loop-entry
invariant-loop-entry g l = (i : ℕ) (a x : Vector) → i < length l.initial.sums → a l.column ≡ dense l.entries i → x l.column ≡ g.T.Exact.number l.number
    → IsRowSumIn g.T.Exact.number g.T.Exact.room l.column a x (sum_of l.initial.sums i) → Counting g.T.Exact.number g.T.Exact.room l.entries l.entry-index l.column a x i (sum_of l.sums i)
