use Rattle.std.proofs.Common.{arith, ◌∙◌}
use Rattle.point_text.proofs.Lines.{line_more}
use Rattle.point_text.proofs.pair_writing.push_duals.Goals as goal

pub loop-id-preserved : goal.loop-id-preserved
loop-id-preserved g c =
    line_more g.T.Exact.number g.T.Textual.texts.writing (g.L.Labels.row_names c.args.labels.now) c.args.duals.now c.loop-id.id c.as_bytes.result.now c.index-duals-id.result c.loop-id.out.items c.push_line.new.out.items _
    (omega (arith, c.loop-id-test.true, c.requires)) c.loop-id-test.true (c.as_bytes.ensures.bytes ∙ c.row_name.ensures) c.index-duals-id.is c.loop-id.invariant c.in_ok-push_line.ensures
