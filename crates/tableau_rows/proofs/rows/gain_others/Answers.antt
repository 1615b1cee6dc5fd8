use Rattle.std.proofs.Common.{refl}
use Rattle.lp_model.specs.Vectors.{vector_of}
use Rattle.fractions.specs.Number.{zero_ℚ}
use Rattle.lp_model.proofs.Sums.{not_so}
use Rattle.tableau_rows.specs.Places.{GainedAt, GainFitsAt}
use Rattle.tableau_rows.proofs.Sweeps.{Both, swept_none, swept_more, swept_past, swept_all, swept_room, err_fits}
use Rattle.tableau_rows.proofs.rows.gain_others.Goals as goal

pub loop-k-init : goal.loop-k-init
loop-k-init c = swept_none (Both (GainedAt c.args.b c.args.e c.args.multiple.now (vector_of c.args.line.now)) (GainFitsAt c.args.b c.args.e c.args.multiple.now (vector_of c.args.line.now))) zero_ℚ c.args.row.now

pub loop-k-preserved : goal.loop-k-preserved
loop-k-preserved c = swept_more (GainedAt c.args.b c.args.e c.args.multiple.now (vector_of c.args.line.now)) (GainFitsAt c.args.b c.args.e c.args.multiple.now (vector_of c.args.line.now)) zero_ℚ c.index-row-k.result c.in_ok-row.field-0 c.loop-k.k c.args.row.now c.loop-k.row
    c.loop-k-test.true c.in_ok-row.ensures.value (c.in_ok-row.ensures.fits.0 refl) c.loop-k.invariant

pub returns-in_err-row-clause-fits : goal.returns-in_err-row-clause-fits
returns-in_err-row-clause-fits c = err_fits c.from_residual.result _ c.from_residual.ensures.0
    (swept_past (GainedAt c.args.b c.args.e c.args.multiple.now (vector_of c.args.line.now)) (GainFitsAt c.args.b c.args.e c.args.multiple.now (vector_of c.args.line.now)) zero_ℚ c.index-row-k.result c.loop-k.k c.args.row.now c.loop-k.row
    c.loop-k-test.true (λ room. not_so (c.in_err-row.ensures.fits.1 room)) c.loop-k.invariant)

pub returns-clause-value : goal.returns-clause-value
returns-clause-value c = swept_all (GainedAt c.args.b c.args.e c.args.multiple.now (vector_of c.args.line.now)) (GainFitsAt c.args.b c.args.e c.args.multiple.now (vector_of c.args.line.now)) zero_ℚ c.loop-k.k c.args.row.now c.loop-k.row c.loop-k-test.false c.loop-k.invariant

pub returns-clause-fits : goal.returns-clause-fits
returns-clause-fits c = ((λ done. swept_room (GainedAt c.args.b c.args.e c.args.multiple.now (vector_of c.args.line.now)) (GainFitsAt c.args.b c.args.e c.args.multiple.now (vector_of c.args.line.now)) zero_ℚ c.loop-k.k c.args.row.now c.loop-k.row c.loop-k-test.false c.loop-k.invariant), λ room. refl)
