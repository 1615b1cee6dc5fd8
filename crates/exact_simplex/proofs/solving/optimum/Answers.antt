use Rattle.std.proofs.Common.{refl}
use Rattle.lp_model.proofs.Sums.{not_so}
use Rattle.simplex_tableau.specs.Data.{shown}
use Rattle.exact_simplex.proofs.AnswerLaws.{optimal_of, past_of}
use Rattle.exact_simplex.proofs.solving.optimum.Goals as goal

pub returns-in_default : goal.returns-in_default
returns-in_default c = past_of c.args.program.now (shown c.args.tableau.now) c.args.pivots c.in_ok-point.point c.in_ok-point.ensures (λ f. not_so (c.in_default.ensures.fits.1 f))

pub returns : goal.returns
returns c = optimal_of c.args.program.now (shown c.args.tableau.now) c.args.pivots c.in_ok-point.point c.in_ok-duals_of.field-0 c.in-Ok.cost c.in_ok-point.ensures c.in_ok-duals_of.ensures (c.in-Ok.ensures.fits.0 refl) c.in-Ok.ensures.value
