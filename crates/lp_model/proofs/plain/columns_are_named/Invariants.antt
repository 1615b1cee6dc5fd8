use Rattle.std.proofs.Common.{ℕ, ◌<◌, slice_index_or}
use Rattle.lp_model.specs.Name.{IsName}
use Rattle.lp_model.specs.declared.program.ColumnDef.{ColumnDef}
use Rattle.lp_model.proofs.plain.columns_are_named.Given as goal

-- those so far have names
abbrev pub invariant-loop-column : goal.invariant-loop-column
invariant-loop-column l = (i : ℕ) (d : ColumnDef) → i < l.column-index → IsName (slice_index_or l.columns i d).name
