use Rattle.std.proofs.Common.{inl, inr}
use Rattle.tableau_rows.proofs.Zeros.{gain_none}
use Rattle.tableau_rows.proofs.rows.gained.Goals as goal
use Rattle.tableau_rows.proofs.rows.gained.Goals.{then-is_zero-via-then-is_zero, then-is_zero-via-else-is_zero+then-is_zero-2}

pub returns-then-is_zero-clause-value : goal.returns-then-is_zero-clause-value
returns-then-is_zero-clause-value c = elim c.then-is_zero.branch [
  | then-is_zero-via-then-is_zero w ↦ gain_none c.args.number.now c.args.multiple.now c.args.other.now (inl (c.is_zero.ensures.same.0 w.if-is_zero.true))
  | then-is_zero-via-else-is_zero+then-is_zero-2 w ↦ gain_none c.args.number.now c.args.multiple.now c.args.other.now (inr (w.is_zero-else-is_zero.ensures.same.0 w.if-is_zero-2.true))
]
