use Rattle.std.proofs.Common.{◌∙◌, ap, sym, length}
use Rattle.lp_model.specs.declared.program.ColumnDef.{ColumnDef}
use Rattle.entry_lines.proofs.Crossing.{across_next}
use Rattle.entry_lines.proofs.transpose.entries_across.Goals as goal

pub loop-j-preserved : goal.loop-j-preserved
loop-j-preserved c =
    let next = across_next c.args.count c.loop-j.rows.len c.loop-j.j c.loop-j.rows.items c.as_mut_slice.result.now c.scatter.new.rows c.args.columns.now c.index-columns-j.result c.as_slice.result.now
    c.as_mut_slice.ensures.value (sym (ap length c.as_mut_slice.ensures.value) ∙ c.as_mut_slice.ensures.len) c.loop-j.invariant.long c.loop-j-test.true
    c.index-columns-j.is (c.as_slice.ensures ∙ ap (λ (d : ColumnDef). d.entries) (sym c.index-columns-j.is)) c.requires.ascend c.in_ok-scatter.ensures c.loop-j.invariant.rows in
    record { long = next.0; rows = next.1 }
