use Rattle.std.proofs.Common.{◌<◌, length, map, sym, ap, ◌∙◌, subst}
use Rattle.lp_model.specs.Vectors.{vector_of}
use Rattle.lp_model.specs.Meaning.{no_column}
use Rattle.lp_model.specs.declared.program.ColumnDef.{ColumnDef}
use Rattle.lp_model.proofs.Sums.{read_at}
use Rattle.lp_check.proofs.NumberReads.{number_read}
use Rattle.lp_check.proofs.RowSums.{sums_none, sums_more}
use Rattle.lp_check.proofs.sums.row_sums.Goals as goal

pub loop-j-init : goal.loop-j-init
loop-j-init g c = sums_none g.T.Exact.number g.T.Exact.room g.met.T.Exact.adds_nothing c.args.program.now (vector_of (map g.T.Exact.number c.args.point.now)) c.rows.result.now c.in_ok-sums.sums.items c.rows.ensures c.in_ok-sums.ensures.long c.in_ok-sums.ensures.each

pub loop-j-preserved : goal.loop-j-preserved
loop-j-preserved g c =
    let long : c.loop-j.j < length c.args.point.now = subst (λ n. c.loop-j.j < n) (ap length c.columns-columns.ensures ∙ sym c.requires.long) c.loop-j-test.true in
    sums_more g.T.Exact.number g.T.Exact.room c.args.program.now (vector_of (map g.T.Exact.number c.args.point.now)) c.loop-j.j c.loop-j.sums.len c.loop-j.sums.items c.as_mut_slice.result.now c.count_column.new.sums c.as_slice.result.now (g.T.Exact.number c.index-point-j.result)
    c.as_mut_slice.ensures.value c.as_mut_slice.ensures.len c.count_column.auto.sums
    (c.as_slice.ensures ∙ ap (λ (d : ColumnDef). d.entries) (read_at _ c.args.program.now.columns c.loop-j.j _ no_column c.columns-columns.ensures c.loop-j-test.true))
    (number_read g.T.Exact.number c.args.point.now c.loop-j.j c.index-point-j.result long c.index-point-j.is)
    c.in_ok-count_column.ensures c.loop-j.invariant
