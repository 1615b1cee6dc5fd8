use Rattle.std.proofs.Common.{◌≡◌, Some, sym, ◌∙◌}
use Rattle.simplex_laws.specs.Choices.{end_ahead}
use Rattle.simplex_tableau.specs.Data.{shown}
use Rattle.simplex_tableau.specs.Programs.{minimized}
use Rattle.simplex_steps.specs.Signs.{sign_of}
use Rattle.simplex_steps.proofs.StepLaws.{Going, own_made, own_past, turn_made, turn_past, going_pivots}
use Rattle.simplex_steps.proofs.steps.go.Goals as goal

pub returns-then-stop-e-clause-made : goal.returns-then-stop-e-clause-made
returns-then-stop-e-clause-made c =
    let g : Going (minimized c.args.program.now) (shown c.args.tableau.now) c.args.e (sign_of c.args.up) c.args.stop.now.variable c.args.stop.now.far = record { way = c.requires.way; stops = c.requires.stops; room = c.requires.room } in
    own_made c.shift.result (minimized c.args.program.now) (shown c.args.tableau.now) c.args.e (sign_of c.args.up) c.args.stop.now.variable c.args.stop.now.far c.signed.result (shown c.shift.new.self) g c.if-stop-e.true c.signed.ensures.left c.shift.ensures.value c.shift.ensures.fits

pub returns-then-stop-e-clause-past : goal.returns-then-stop-e-clause-past
returns-then-stop-e-clause-past c =
    let g : Going (minimized c.args.program.now) (shown c.args.tableau.now) c.args.e (sign_of c.args.up) c.args.stop.now.variable c.args.stop.now.far = record { way = c.requires.way; stops = c.requires.stops; room = c.requires.room } in
    own_past c.shift.result (minimized c.args.program.now) (shown c.args.tableau.now) c.args.e (sign_of c.args.up) c.args.stop.now.variable c.args.stop.now.far c.signed.result g c.if-stop-e.true c.signed.ensures.left c.shift.ensures.fits

pub pivot-requires-clause-can : goal.pivot-requires-clause-can
pivot-requires-clause-can c =
    let ahead : end_ahead (minimized c.args.program.now) (shown c.args.tableau.now) c.args.e (sign_of c.args.up) c.args.stop.now.variable ≡ Some c.in-Some.bound = sym c.end_ahead.ensures ∙ sym c.number.ensures ∙ c.in-Some.is in
    going_pivots (minimized c.args.program.now) (shown c.args.tableau.now) c.args.e (sign_of c.args.up) c.args.stop.now.variable c.args.stop.now.far c.in-Some.bound c.requires.tableau c.requires.enters c.requires.stops ahead

pub returns-in-Some-clause-made : goal.returns-in-Some-clause-made
returns-in-Some-clause-made c =
    let g : Going (minimized c.args.program.now) (shown c.args.tableau.now) c.args.e (sign_of c.args.up) c.args.stop.now.variable c.args.stop.now.far = record { way = c.requires.way; stops = c.requires.stops; room = c.requires.room } in
    let ahead : end_ahead (minimized c.args.program.now) (shown c.args.tableau.now) c.args.e (sign_of c.args.up) c.args.stop.now.variable ≡ Some c.in-Some.bound = sym c.end_ahead.ensures ∙ sym c.number.ensures ∙ c.in-Some.is in
    turn_made c.pivot.result (minimized c.args.program.now) (shown c.args.tableau.now) c.args.e (sign_of c.args.up) c.args.stop.now.variable c.args.stop.now.far c.in-Some.bound (shown c.pivot.new.self) g c.if-stop-e.false ahead c.pivot.ensures.value c.pivot.ensures.fits

pub returns-in-Some-clause-past : goal.returns-in-Some-clause-past
returns-in-Some-clause-past c =
    let g : Going (minimized c.args.program.now) (shown c.args.tableau.now) c.args.e (sign_of c.args.up) c.args.stop.now.variable c.args.stop.now.far = record { way = c.requires.way; stops = c.requires.stops; room = c.requires.room } in
    let ahead : end_ahead (minimized c.args.program.now) (shown c.args.tableau.now) c.args.e (sign_of c.args.up) c.args.stop.now.variable ≡ Some c.in-Some.bound = sym c.end_ahead.ensures ∙ sym c.number.ensures ∙ c.in-Some.is in
    turn_past c.pivot.result (minimized c.args.program.now) (shown c.args.tableau.now) c.args.e (sign_of c.args.up) c.args.stop.now.variable c.args.stop.now.far c.in-Some.bound g c.if-stop-e.false ahead c.pivot.ensures.fits
