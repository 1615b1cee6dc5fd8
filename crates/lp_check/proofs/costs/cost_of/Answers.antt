use Rattle.std.proofs.Common.{◌<◌, length, true, refl, sym, ap, ◌∙◌, subst}
use Rattle.std.proofs.lemmas.Result.{err_from_is_err_and}
use Rattle.lp_model.specs.Meaning.{no_column}
use Rattle.lp_model.specs.declared.program.ColumnDef.{ColumnDef}
use Rattle.lp_model.proofs.Sums.{read_at}
use Rattle.lp_prices.proofs.Sums.{summed_none, summed_more, no_room}
use Rattle.lp_check.proofs.NumberReads.{number_read}
use Rattle.lp_check.proofs.costs.cost_of.Goals as goal

pub loop-j-init : goal.loop-j-init
loop-j-init g c = summed_none _ _ _ _ c.zero-sum.ensures.value

pub loop-j-preserved : goal.loop-j-preserved
loop-j-preserved g c =
    let long : c.loop-j.j < length c.args.point.now = subst (λ n. c.loop-j.j < n) (ap length c.columns-columns.ensures ∙ sym c.requires) c.loop-j-test.true in
    summed_more _ _ _ _ _ _ _ _ c.loop-j.invariant
    (ap (λ (d : ColumnDef). d.cost) (read_at _ c.args.program.now.columns c.loop-j.j _ no_column c.columns-columns.ensures c.loop-j-test.true))
    (number_read g.T.Exact.number c.args.point.now c.loop-j.j c.index-point-j.result long c.index-point-j.is)
    c.in_ok-sum.ensures.value
    (c.in_ok-sum.ensures.fits (refl {a = true}))

pub returns-in_err-sum-clause-past : goal.returns-in_err-sum-clause-past
returns-in_err-sum-clause-past g c =
    let p = err_from_is_err_and c.from_residual.result c.from_residual.ensures.1 in
    let long : c.loop-j.j < length c.args.point.now = subst (λ n. c.loop-j.j < n) (ap length c.columns-columns.ensures ∙ sym c.requires) c.loop-j-test.true in
    let inside : c.loop-j.j < length c.args.program.now.columns = subst (λ n. c.loop-j.j < n) (ap length c.columns-columns.ensures) c.loop-j-test.true in
    rw p.1 (λ past all. no_room g.T.Exact.room _ _ _ _ _ _ _ c.loop-j.invariant
    (ap (λ (d : ColumnDef). d.cost) (read_at _ c.args.program.now.columns c.loop-j.j _ no_column c.columns-columns.ensures c.loop-j-test.true))
    (number_read g.T.Exact.number c.args.point.now c.loop-j.j c.index-point-j.result long c.index-point-j.is)
    inside (c.in_err-sum.ensures.past (subst (λ why. g.T.Exact.is_past why) p.2 past)) all.0)
