use Rattle.std.proofs.Common.{length, ap, arith}
use Rattle.lp_model.specs.Meaning.{column_at}
use Rattle.lp_model.specs.Vectors.{vector_of}
use Rattle.lp_model.proofs.GapLaws.{reaches}
use Rattle.lp_model.proofs.plain.violated_column.Goals as goal

pub returns : goal.returns
returns c j below =
    let h = c.loop-j.invariant j (omega (arith, below, ap length c.columns-columns.ensures, c.loop-j.auto.j-end, c.loop-j-test.false)) in
    let r = reaches (column_at c.args.program.now j).semi (column_at c.args.program.now j).lower (column_at c.args.program.now j).upper (vector_of c.args.point.now j) h.0 in
    (r.0, h.1, r.1)
