use Rattle.std.proofs.Common.{length, refl}
use Rattle.std.proofs.lemmas.Result.{err_from_is_err_and}
use Rattle.lp_model.proofs.Sums.{not_so}
use Rattle.lp_model.specs.Meaning.{meaning}
use Rattle.lp_rays.specs.RayData.{weights_of}
use Rattle.ray_check.proofs.LoopReads.{within, lower_here, upper_here, weight_here}
use Rattle.ray_check.proofs.Worthing.{worthing_none, worthing_more, worthing_stops}
use Rattle.ray_check.proofs.worths.side_worths.Goals as goal

pub loop-i-init : goal.loop-i-init
loop-i-init c = record {
  lower = worthing_none (meaning c.args.program.now).lower_side (weights_of c.args.ray.now).s c.zero-lower.result c.zero-lower.ensures.value;
  upper = worthing_none (meaning c.args.program.now).upper_side (weights_of c.args.ray.now).t c.zero-upper.result c.zero-upper.ensures.value;
}

pub loop-i-preserved : goal.loop-i-preserved
loop-i-preserved c = record {
  lower = worthing_more c.loop-i.i (meaning c.args.program.now).lower_side (weights_of c.args.ray.now).s c.loop-i.lower c.in_ok-lower.lower c.index-rows-i.result.lower c.index-low-i.result
      (lower_here c.args.program.now c.rows-rows.result.now c.loop-i.i c.index-rows-i.result c.rows-rows.ensures c.loop-i-test.true c.index-rows-i.is)
      (weight_here c.args.ray.now.lower_sides c.lower_sides-low.result.now c.loop-i.i (length c.args.program.now.rows) c.index-low-i.result c.lower_sides-low.ensures c.requires.lower_sides (within c.rows-rows.result.now c.args.program.now.rows c.loop-i.i c.rows-rows.ensures c.loop-i-test.true) c.index-low-i.is)
      c.in_ok-lower.ensures.value (c.in_ok-lower.ensures.fits.0 refl) c.loop-i.invariant.lower;
  upper = worthing_more c.loop-i.i (meaning c.args.program.now).upper_side (weights_of c.args.ray.now).t c.loop-i.upper c.in_ok-upper.upper c.index-rows-i.result.upper c.index-high-i.result
      (upper_here c.args.program.now c.rows-rows.result.now c.loop-i.i c.index-rows-i.result c.rows-rows.ensures c.loop-i-test.true c.index-rows-i.is)
      (weight_here c.args.ray.now.upper_sides c.upper_sides-high.result.now c.loop-i.i (length c.args.program.now.rows) c.index-high-i.result c.upper_sides-high.ensures c.requires.upper_sides (within c.rows-rows.result.now c.args.program.now.rows c.loop-i.i c.rows-rows.ensures c.loop-i-test.true) c.index-high-i.is)
      c.in_ok-upper.ensures.value (c.in_ok-upper.ensures.fits.0 refl) c.loop-i.invariant.upper;
}

pub returns-in_err-lower-clause-fits : goal.returns-in_err-lower-clause-fits
returns-in_err-lower-clause-fits c =
    let p = err_from_is_err_and c.from_residual.result c.from_residual.ensures.1 in
    rw p.1 (
      (λ k. absurd (not_so k)),
      λ f. absurd (worthing_stops (length c.args.program.now.rows) c.loop-i.i (meaning c.args.program.now).lower_side (weights_of c.args.ray.now).s c.loop-i.lower c.index-rows-i.result.lower c.index-low-i.result
          (lower_here c.args.program.now c.rows-rows.result.now c.loop-i.i c.index-rows-i.result c.rows-rows.ensures c.loop-i-test.true c.index-rows-i.is)
          (weight_here c.args.ray.now.lower_sides c.lower_sides-low.result.now c.loop-i.i (length c.args.program.now.rows) c.index-low-i.result c.lower_sides-low.ensures c.requires.lower_sides (within c.rows-rows.result.now c.args.program.now.rows c.loop-i.i c.rows-rows.ensures c.loop-i-test.true) c.index-low-i.is)
          (within c.rows-rows.result.now c.args.program.now.rows c.loop-i.i c.rows-rows.ensures c.loop-i-test.true) (λ h. not_so (c.in_err-lower.ensures.fits.1 h)) c.loop-i.invariant.lower f.0),
    )

pub returns-in_err-upper-clause-fits : goal.returns-in_err-upper-clause-fits
returns-in_err-upper-clause-fits c =
    let p = err_from_is_err_and c.from_residual-in_err-upper.result c.from_residual-in_err-upper.ensures.1 in
    rw p.1 (
      (λ k. absurd (not_so k)),
      λ f. absurd (worthing_stops (length c.args.program.now.rows) c.loop-i.i (meaning c.args.program.now).upper_side (weights_of c.args.ray.now).t c.loop-i.upper c.index-rows-i.result.upper c.index-high-i.result
          (upper_here c.args.program.now c.rows-rows.result.now c.loop-i.i c.index-rows-i.result c.rows-rows.ensures c.loop-i-test.true c.index-rows-i.is)
          (weight_here c.args.ray.now.upper_sides c.upper_sides-high.result.now c.loop-i.i (length c.args.program.now.rows) c.index-high-i.result c.upper_sides-high.ensures c.requires.upper_sides (within c.rows-rows.result.now c.args.program.now.rows c.loop-i.i c.rows-rows.ensures c.loop-i-test.true) c.index-high-i.is)
          (within c.rows-rows.result.now c.args.program.now.rows c.loop-i.i c.rows-rows.ensures c.loop-i-test.true) (λ h. not_so (c.in_err-upper.ensures.fits.1 h)) c.loop-i.invariant.upper f.1),
    )
