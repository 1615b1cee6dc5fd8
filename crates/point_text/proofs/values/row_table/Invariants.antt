use Rattle.std.proofs.Common.{take}
use Rattle.point_text.specs.Holding.{IsTableOf}
use Rattle.point_text.proofs.values.row_table.Given as goal

abbrev pub invariant-loop-id : goal.invariant-loop-id
invariant-loop-id g l = IsTableOf (take l.id (g.L.Labels.row_names l.labels)) l.table
