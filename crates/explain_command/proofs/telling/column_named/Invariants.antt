use Rattle.std.proofs.Common.{◌≢◌, ℕ, ◌<◌, get_or}
use Rattle.lp_model.specs.declared.program.ColumnDef.{ColumnDef}
use Rattle.explain_command.proofs.telling.column_named.Given as goal

-- none of those so far has the name
abbrev pub invariant-loop-id : goal.invariant-loop-id
invariant-loop-id l = (k : ℕ) (d : ColumnDef) → k < l.id → (get_or l.columns k d).name ≢ l.name
