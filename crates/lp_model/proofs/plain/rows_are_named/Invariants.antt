use Rattle.std.proofs.Common.{ℕ, ◌<◌, slice_index_or}
use Rattle.lp_model.specs.Name.{IsName}
use Rattle.lp_model.specs.declared.program.RowDef.{RowDef}
use Rattle.lp_model.proofs.plain.rows_are_named.Given as goal

-- those so far have names
abbrev pub invariant-loop-row : goal.invariant-loop-row
invariant-loop-row l = (i : ℕ) (d : RowDef) → i < l.row-index → IsName (slice_index_or l.rows i d).name
