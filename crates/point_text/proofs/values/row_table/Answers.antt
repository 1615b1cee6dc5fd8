use Rattle.std.proofs.Common.{arith, ◌∙◌}
use Rattle.point_text.proofs.Tables.{one_more}
use Rattle.point_text.proofs.values.row_table.Goals as goal

pub loop-id-preserved : goal.loop-id-preserved
loop-id-preserved g c =
    one_more (g.L.Labels.row_names c.args.labels.now) c.loop-id.table c.insert.new.self c.as_bytes.result.now c.loop-id.id c.in_ok-insert.field-0 c.loop-id.invariant
    (omega (arith, c.row_count-id-end.ensures)) (c.as_bytes.ensures.bytes ∙ c.row_name.ensures) c.in_ok-insert.ensures.taken
