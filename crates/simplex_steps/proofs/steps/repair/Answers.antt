use Rattle.std.proofs.Common.{inl, refl}
use Rattle.lp_model.proofs.Sums.{not_so}
use Rattle.simplex_laws.specs.Runs.{Repair}
use Rattle.simplex_laws.proofs.Steps.{repair_pivots}
use Rattle.simplex_tableau.specs.Data.{shown}
use Rattle.simplex_tableau.specs.Programs.{minimized}
use Rattle.simplex_steps.specs.Signs.{sign_of}
use Rattle.simplex_steps.proofs.StepLaws.{if_err}
use Rattle.simplex_steps.proofs.steps.repair.Goals as goal

pub pivot-requires-clause-can : goal.pivot-requires-clause-can
pivot-requires-clause-can c =
    let r : Repair (minimized c.args.program.now) (shown c.args.tableau.now) = record { b = c.args.leaving.now.variable; e = c.in-Some.e; bound = c.args.leaving.now.bound; s = sign_of c.args.leaving.now.up; leaves = c.requires.leaves; enters = c.in-Some.ensures } in
    repair_pivots (minimized c.args.program.now) (shown c.args.tableau.now) r

pub returns-in_err-pivot-clause-past : goal.returns-in_err-pivot-clause-past
returns-in_err-pivot-clause-past c =
    let r : Repair (minimized c.args.program.now) (shown c.args.tableau.now) = record { b = c.args.leaving.now.variable; e = c.in-Some.e; bound = c.args.leaving.now.bound; s = sign_of c.args.leaving.now.up; leaves = c.requires.leaves; enters = c.in-Some.ensures } in
    if_err c.from_residual.result _ (inl r, λ next m. not_so (c.in_err-pivot.ensures.fits.1 m.room))

pub returns-clause-says : goal.returns-clause-says
returns-clause-says c =
    let r : Repair (minimized c.args.program.now) (shown c.args.tableau.now) = record { b = c.args.leaving.now.variable; e = c.in-Some.e; bound = c.args.leaving.now.bound; s = sign_of c.args.leaving.now.up; leaves = c.requires.leaves; enters = c.in-Some.ensures } in
    (inl r, record { room = c.in_ok-pivot.ensures.fits.0 refl; is = c.in_ok-pivot.ensures.value })
