use Rattle.std.proofs.Common.{length, refl}
use Rattle.std.proofs.lemmas.Result.{err_from_is_err_and}
use Rattle.lp_model.proofs.Sums.{not_so}
use Rattle.lp_model.specs.Meaning.{meaning}
use Rattle.lp_rays.specs.RayData.{weights_of}
use Rattle.ray_check.proofs.LoopReads.{within, bound_below, bound_above, weight_here}
use Rattle.ray_check.proofs.Worthing.{worthing_none, worthing_more, worthing_stops}
use Rattle.ray_check.proofs.worths.bound_worths.Goals as goal

pub loop-j-init : goal.loop-j-init
loop-j-init c = record {
  lower = worthing_none (meaning c.args.program.now).lower_bound (weights_of c.args.ray.now).p c.zero-lower.result c.zero-lower.ensures.value;
  upper = worthing_none (meaning c.args.program.now).upper_bound (weights_of c.args.ray.now).q c.zero-upper.result c.zero-upper.ensures.value;
}

pub loop-j-preserved : goal.loop-j-preserved
loop-j-preserved c = record {
  lower = worthing_more c.loop-j.j (meaning c.args.program.now).lower_bound (weights_of c.args.ray.now).p c.loop-j.lower c.in_ok-lower.lower c.index-columns-j.result.lower c.index-low-j.result
      (bound_below c.args.program.now c.columns-columns.result.now c.loop-j.j c.index-columns-j.result c.requires.continuous c.columns-columns.ensures c.loop-j-test.true c.index-columns-j.is)
      (weight_here c.args.ray.now.lower_bounds c.lower_bounds-low.result.now c.loop-j.j (length c.args.program.now.columns) c.index-low-j.result c.lower_bounds-low.ensures c.requires.sized.lower_bounds (within c.columns-columns.result.now c.args.program.now.columns c.loop-j.j c.columns-columns.ensures c.loop-j-test.true) c.index-low-j.is)
      c.in_ok-lower.ensures.value (c.in_ok-lower.ensures.fits.0 refl) c.loop-j.invariant.lower;
  upper = worthing_more c.loop-j.j (meaning c.args.program.now).upper_bound (weights_of c.args.ray.now).q c.loop-j.upper c.in_ok-upper.upper c.index-columns-j.result.upper c.index-high-j.result
      (bound_above c.args.program.now c.columns-columns.result.now c.loop-j.j c.index-columns-j.result c.requires.continuous c.columns-columns.ensures c.loop-j-test.true c.index-columns-j.is)
      (weight_here c.args.ray.now.upper_bounds c.upper_bounds-high.result.now c.loop-j.j (length c.args.program.now.columns) c.index-high-j.result c.upper_bounds-high.ensures c.requires.sized.upper_bounds (within c.columns-columns.result.now c.args.program.now.columns c.loop-j.j c.columns-columns.ensures c.loop-j-test.true) c.index-high-j.is)
      c.in_ok-upper.ensures.value (c.in_ok-upper.ensures.fits.0 refl) c.loop-j.invariant.upper;
}

pub returns-in_err-lower-clause-fits : goal.returns-in_err-lower-clause-fits
returns-in_err-lower-clause-fits c =
    let p = err_from_is_err_and c.from_residual.result c.from_residual.ensures.1 in
    rw p.1 (
      (λ k. absurd (not_so k)),
      λ f. absurd (worthing_stops (length c.args.program.now.columns) c.loop-j.j (meaning c.args.program.now).lower_bound (weights_of c.args.ray.now).p c.loop-j.lower c.index-columns-j.result.lower c.index-low-j.result
          (bound_below c.args.program.now c.columns-columns.result.now c.loop-j.j c.index-columns-j.result c.requires.continuous c.columns-columns.ensures c.loop-j-test.true c.index-columns-j.is)
          (weight_here c.args.ray.now.lower_bounds c.lower_bounds-low.result.now c.loop-j.j (length c.args.program.now.columns) c.index-low-j.result c.lower_bounds-low.ensures c.requires.sized.lower_bounds (within c.columns-columns.result.now c.args.program.now.columns c.loop-j.j c.columns-columns.ensures c.loop-j-test.true) c.index-low-j.is)
          (within c.columns-columns.result.now c.args.program.now.columns c.loop-j.j c.columns-columns.ensures c.loop-j-test.true) (λ h. not_so (c.in_err-lower.ensures.fits.1 h)) c.loop-j.invariant.lower f.0),
    )

pub returns-in_err-upper-clause-fits : goal.returns-in_err-upper-clause-fits
returns-in_err-upper-clause-fits c =
    let p = err_from_is_err_and c.from_residual-in_err-upper.result c.from_residual-in_err-upper.ensures.1 in
    rw p.1 (
      (λ k. absurd (not_so k)),
      λ f. absurd (worthing_stops (length c.args.program.now.columns) c.loop-j.j (meaning c.args.program.now).upper_bound (weights_of c.args.ray.now).q c.loop-j.upper c.index-columns-j.result.upper c.index-high-j.result
          (bound_above c.args.program.now c.columns-columns.result.now c.loop-j.j c.index-columns-j.result c.requires.continuous c.columns-columns.ensures c.loop-j-test.true c.index-columns-j.is)
          (weight_here c.args.ray.now.upper_bounds c.upper_bounds-high.result.now c.loop-j.j (length c.args.program.now.columns) c.index-high-j.result c.upper_bounds-high.ensures c.requires.sized.upper_bounds (within c.columns-columns.result.now c.args.program.now.columns c.loop-j.j c.columns-columns.ensures c.loop-j-test.true) c.index-high-j.is)
          (within c.columns-columns.result.now c.args.program.now.columns c.loop-j.j c.columns-columns.ensures c.loop-j-test.true) (λ h. not_so (c.in_err-upper.ensures.fits.1 h)) c.loop-j.invariant.upper f.1),
    )
