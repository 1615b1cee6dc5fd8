use Rattle.std.proofs.Common.{◌≢◌, ℕ, ◌<◌, get_or}
use Rattle.lp_model.specs.declared.program.RowDef.{RowDef}
use Rattle.explain_command.proofs.telling.row_named.Given as goal

-- none of those so far has the name
abbrev pub invariant-loop-id : goal.invariant-loop-id
invariant-loop-id l = (k : ℕ) (d : RowDef) → k < l.id → (get_or l.rows k d).name ≢ l.name
