use Rattle.std.proofs.Common.{◌∙◌, refl}
use Rattle.run_rays.proofs.Histories.{at_problem, enabled_here, fits_here, lifts_to, past_same, ray_here, replays_here, sized_here, sound_here, starts_with, stops_here}
use Rattle.run_rays.specs.Lifting.{ray_of}
use Rattle.lp_rays.specs.RayData.{weights_of}
use Rattle.std.specs.Prelude.{◌≡◌}
use Rattle.run_rays.proofs.of_run.ray.Goals as goal

pub steps_of-requires : goal.steps_of-requires
steps_of-requires c = replays_here c.args.numbers c.args.program.now c.args.history.now c.args.verdict c.in_ok-problem.problem c.requires.end c.in_ok-problem.ensures

pub start-requires-clause-enabled : goal.start-requires-clause-enabled
start-requires-clause-enabled c =
    enabled_here c.args.numbers c.args.program.now c.args.history.now c.args.verdict c.in_ok-problem.problem c.steps_of.new.problem c.requires.end c.in_ok-problem.ensures c.in_ok-steps.ensures.problem

pub lift-requires-clause-sound : goal.lift-requires-clause-sound
lift-requires-clause-sound c =
    sound_here c.args.numbers c.args.program.now c.in_ok-problem.problem c.steps_of.new.problem c.args.history.now c.in_ok-ray.ray c.as_slice.result.now c.in_ok-problem.ensures
    (replays_here c.args.numbers c.args.program.now c.args.history.now c.args.verdict c.in_ok-problem.problem c.requires.end c.in_ok-problem.ensures)
    c.in_ok-steps.ensures.problem c.in_ok-ray.ensures.sized (c.as_slice.ensures.value ∙ c.in_ok-steps.ensures.steps)

pub returns-in-Ok-clause-sized : goal.returns-in-Ok-clause-sized
returns-in-Ok-clause-sized c =
    sized_here c.args.program.now c.in_ok-problem.problem c.steps_of.new.problem c.args.history.now c.lift.new.ray c.in_ok-problem.ensures c.in_ok-steps.ensures.problem (c.in-Ok.ensures.sized _ _ c.in_ok-ray.ensures.sized)

pub returns-in-Ok-clause-ray : goal.returns-in-Ok-clause-ray
returns-in-Ok-clause-ray c =
    ray_here c.args.numbers c.args.program.now c.in_ok-problem.problem c.steps_of.new.problem c.args.history.now c.as_slice.result.now (weights_of c.in_ok-ray.ray) (weights_of c.lift.new.ray) c.in_ok-problem.ensures c.requires.continuous
    (replays_here c.args.numbers c.args.program.now c.args.history.now c.args.verdict c.in_ok-problem.problem c.requires.end c.in_ok-problem.ensures)
    c.in_ok-steps.ensures.problem (c.as_slice.ensures.value ∙ c.in_ok-steps.ensures.steps) c.in_ok-ray.ensures.ray c.in-Ok.ensures.lifted

pub returns-in-Ok-clause-value : goal.returns-in-Ok-clause-value
returns-in-Ok-clause-value c = λ p o.
    at_problem c.args.program.now c.in_ok-problem.problem p (λ q. weights_of c.lift.new.ray ≡ ray_of q c.args.history.now c.args.verdict) c.in_ok-problem.ensures o
    (lifts_to c.in_ok-problem.problem c.args.history.now c.args.verdict c.as_slice.result.now (weights_of c.in_ok-ray.ray) (weights_of c.lift.new.ray) (c.as_slice.ensures.value ∙ c.in_ok-steps.ensures.steps)
    (starts_with c.in_ok-problem.problem c.steps_of.new.problem c.args.history.now c.args.verdict (weights_of c.in_ok-ray.ray) c.in_ok-steps.ensures.problem c.in_ok-ray.ensures.value) c.in-Ok.ensures.lifted)

pub returns-in-Ok-clause-fits : goal.returns-in-Ok-clause-fits
returns-in-Ok-clause-fits c = λ p o.
    fits_here c.args.program.now c.in_ok-problem.problem p c.args.history.now c.args.verdict c.as_slice.result.now (weights_of c.in_ok-ray.ray) c.in_ok-problem.ensures o (c.as_slice.ensures.value ∙ c.in_ok-steps.ensures.steps)
    (starts_with c.in_ok-problem.problem c.steps_of.new.problem c.args.history.now c.args.verdict (weights_of c.in_ok-ray.ray) c.in_ok-steps.ensures.problem c.in_ok-ray.ensures.value) (c.in-Ok.ensures.fits.0 refl)

pub returns-clause-past : goal.returns-clause-past
returns-clause-past c = λ p at o e.
    stops_here c.args.program.now c.in_ok-problem.problem p c.args.history.now c.args.verdict c.as_slice.result.now (weights_of c.in_ok-ray.ray) c.in-Err.stop.at at c.in_ok-problem.ensures o
    (c.as_slice.ensures.value ∙ c.in_ok-steps.ensures.steps)
    (starts_with c.in_ok-problem.problem c.steps_of.new.problem c.args.history.now c.args.verdict (weights_of c.in_ok-ray.ray) c.in_ok-steps.ensures.problem c.in_ok-ray.ensures.value) c.in-Err.ensures.stopped (past_same c.in-Err.stop.at at e)
