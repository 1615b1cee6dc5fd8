use Rattle.std.proofs.Common.{refl}
use Rattle.tableau_rows.specs.Places.{row_of, MovedAt, MoveFitsAt}
use Rattle.fractions.specs.Number.{zero_ℚ}
use Rattle.lp_model.proofs.Sums.{not_so}
use Rattle.tableau_rows.proofs.Sweeps.{Both, swept_none, swept_more, swept_past, swept_all, swept_room, err_fits}
use Rattle.tableau_rows.proofs.rows.move_others.Goals as goal

pub loop-m-init : goal.loop-m-init
loop-m-init c = swept_none (Both (MovedAt c.args.b c.args.e (row_of c.args.rows.now) c.args.w.now) (MoveFitsAt c.args.b c.args.e (row_of c.args.rows.now) c.args.w.now)) zero_ℚ c.args.values.now

pub loop-m-preserved : goal.loop-m-preserved
loop-m-preserved c = swept_more (MovedAt c.args.b c.args.e (row_of c.args.rows.now) c.args.w.now) (MoveFitsAt c.args.b c.args.e (row_of c.args.rows.now) c.args.w.now) zero_ℚ c.index-values-m.result c.in_ok-values.field-0 c.loop-m.m c.args.values.now c.loop-m.values
    c.loop-m-test.true c.in_ok-values.ensures.value (c.in_ok-values.ensures.fits.0 refl) c.loop-m.invariant

pub returns-in_err-values-clause-fits : goal.returns-in_err-values-clause-fits
returns-in_err-values-clause-fits c = err_fits c.from_residual.result _ c.from_residual.ensures.0
    (swept_past (MovedAt c.args.b c.args.e (row_of c.args.rows.now) c.args.w.now) (MoveFitsAt c.args.b c.args.e (row_of c.args.rows.now) c.args.w.now) zero_ℚ c.index-values-m.result c.loop-m.m c.args.values.now c.loop-m.values
    c.loop-m-test.true (λ room. not_so (c.in_err-values.ensures.fits.1 room)) c.loop-m.invariant)

pub returns-clause-value : goal.returns-clause-value
returns-clause-value c = swept_all (MovedAt c.args.b c.args.e (row_of c.args.rows.now) c.args.w.now) (MoveFitsAt c.args.b c.args.e (row_of c.args.rows.now) c.args.w.now) zero_ℚ c.loop-m.m c.args.values.now c.loop-m.values c.loop-m-test.false c.loop-m.invariant

pub returns-clause-fits : goal.returns-clause-fits
returns-clause-fits c = ((λ done. swept_room (MovedAt c.args.b c.args.e (row_of c.args.rows.now) c.args.w.now) (MoveFitsAt c.args.b c.args.e (row_of c.args.rows.now) c.args.w.now) zero_ℚ c.loop-m.m c.args.values.now c.loop-m.values c.loop-m-test.false c.loop-m.invariant), λ room. refl)
