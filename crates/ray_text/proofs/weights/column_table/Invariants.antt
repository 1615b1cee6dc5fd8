use Rattle.std.proofs.Common.{◌≡◌, take}
use Rattle.lp_model.specs.Names.{names_of_columns}
use Rattle.ray_text.proofs.weights.column_table.Given as goal

-- the names so far
abbrev pub invariant-loop-id : goal.invariant-loop-id
invariant-loop-id l = l.table ≡ take l.id (names_of_columns l.columns)
