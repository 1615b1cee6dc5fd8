use Rattle.std.proofs.Common.{arith, ◌∙◌}
use Rattle.point_text.proofs.Tables.{one_more}
use Rattle.point_text.proofs.values.column_table.Goals as goal

pub loop-id-preserved : goal.loop-id-preserved
loop-id-preserved g c =
    one_more (g.L.Labels.column_names c.args.labels.now) c.loop-id.table c.insert.new.self c.as_bytes.result.now c.loop-id.id c.in_ok-insert.field-0 c.loop-id.invariant
    (omega (arith, c.column_count-id-end.ensures)) (c.as_bytes.ensures.bytes ∙ c.column_name.ensures) c.in_ok-insert.ensures.taken
