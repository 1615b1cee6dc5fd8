use Rattle.std.proofs.Common.{inr, Option, subst}
use Rattle.std.specs.Prelude.{MatchOption}
use Rattle.lp_model.proofs.Sums.{not_so}
use Rattle.simplex_laws.specs.Choices.{NoLimit, Stops}
use Rattle.simplex_laws.specs.Runs.{Descent}
use Rattle.simplex_tableau.specs.Data.{shown}
use Rattle.simplex_steps.specs.declared.limits.Stop.{Stop}
use Rattle.simplex_tableau.specs.Programs.{minimized}
use Rattle.simplex_steps.specs.Signs.{sign_of}
use Rattle.simplex_steps.proofs.StepLaws.{if_err, descent_past, stops_limited}
use Rattle.simplex_steps.proofs.steps.descend.Goals as goal

pub returns-in_err-stop-clause-past : goal.returns-in_err-stop-clause-past
returns-in_err-stop-clause-past c = if_err c.from_residual.result _
    (descent_past (minimized c.args.program.now) (shown c.args.tableau.now) c.in-Some.e (sign_of c.goes_up-up.result) c.requires.repaired c.in-Some.ensures c.goes_up-up.ensures (λ fits. not_so (c.in_err-stop.ensures.fits.1 fits)))

pub returns-in_err-go-clause-past : goal.returns-in_err-go-clause-past
returns-in_err-go-clause-past c =
    let limited : NoLimit (minimized c.args.program.now) (shown c.args.tableau.now) c.in-Some.e (sign_of c.goes_up-up.result) → ⊥ = stops_limited (minimized c.args.program.now) (shown c.args.tableau.now) c.in-Some.e (sign_of c.goes_up-up.result) c.in-Some-2.stop.variable c.in-Some-2.stop.far
    (subst (λ (o : Option Stop). MatchOption o (NoLimit (minimized c.args.program.now) (shown c.args.tableau.now) c.in-Some.e (sign_of c.goes_up-up.result)) (λ s. Stops (minimized c.args.program.now) (shown c.args.tableau.now) c.in-Some.e (sign_of c.goes_up-up.result) s.variable s.far)) c.in-Some-2.is c.in_ok-stop.ensures.value) in
    let d : Descent (minimized c.args.program.now) (shown c.args.tableau.now) = record { e = c.in-Some.e; repaired = c.requires.repaired; enters = c.in-Some.ensures; limited = λ k. limited (subst (λ x. NoLimit (minimized c.args.program.now) (shown c.args.tableau.now) c.in-Some.e x) c.goes_up-up.ensures k) } in
    if_err c.from_residual-in_err-go.result _ (inr d, c.in_err-go.ensures.past)

pub returns-clause-says : goal.returns-clause-says
returns-clause-says c =
    let limited : NoLimit (minimized c.args.program.now) (shown c.args.tableau.now) c.in-Some.e (sign_of c.goes_up-up.result) → ⊥ = stops_limited (minimized c.args.program.now) (shown c.args.tableau.now) c.in-Some.e (sign_of c.goes_up-up.result) c.in-Some-2.stop.variable c.in-Some-2.stop.far
    (subst (λ (o : Option Stop). MatchOption o (NoLimit (minimized c.args.program.now) (shown c.args.tableau.now) c.in-Some.e (sign_of c.goes_up-up.result)) (λ s. Stops (minimized c.args.program.now) (shown c.args.tableau.now) c.in-Some.e (sign_of c.goes_up-up.result) s.variable s.far)) c.in-Some-2.is c.in_ok-stop.ensures.value) in
    let d : Descent (minimized c.args.program.now) (shown c.args.tableau.now) = record { e = c.in-Some.e; repaired = c.requires.repaired; enters = c.in-Some.ensures; limited = λ k. limited (subst (λ x. NoLimit (minimized c.args.program.now) (shown c.args.tableau.now) c.in-Some.e x) c.goes_up-up.ensures k) } in
    (inr d, c.in_ok-go.ensures.made)
