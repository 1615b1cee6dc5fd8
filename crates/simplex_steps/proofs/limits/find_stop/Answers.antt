use Rattle.std.proofs.Common.{below_more, refl}
use Rattle.simplex_tableau.specs.Programs.{minimized}
use Rattle.simplex_laws.specs.Choices.{limit}
use Rattle.simplex_tableau.specs.Data.{shown}
use Rattle.simplex_steps.specs.Signs.{sign_of}
use Rattle.simplex_steps.proofs.limits.find_stop.Goals as goal

pub loop-m-preserved : goal.loop-m-preserved
loop-m-preserved c = (
  c.nearer-best.ensures (limit (minimized c.args.program.now) (shown c.args.tableau.now) c.args.e (sign_of c.args.up)) c.in_ok-limit.ensures.value c.loop-m.invariant.0,
  below_more _ _ c.loop-m.invariant.1 (c.in_ok-limit.ensures.fits.0 refl),
)
