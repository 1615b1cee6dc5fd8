use Rattle.std.proofs.Common.{length, false, sym, ap, ◌∙◌}
use Rattle.std.proofs.lemmas.Result.{err_from_is_err_and}
use Rattle.lp_model.specs.Meaning.{meaning}
use Rattle.simplex_tableau.specs.Data.{TableauData}
use Rattle.simplex_tableau.proofs.Firsts.{IsFirst, first_shown, first_shaped, fits_in}
use Rattle.simplex_tableau.proofs.tableau.Tableau.start.Goals as goal

pub returns-in_err-values-clause-past : goal.returns-in_err-values-clause-past
returns-in_err-values-clause-past c =
    let p = err_from_is_err_and c.from_residual-in_err-values.result c.from_residual-in_err-values.ensures.1 in
    rw p.1 (λ s f. c.in_err-values.ensures.past (sym p.2 ∙ s) ((fits_in c.args.program.now.sense (meaning c.args.program.now)).0 f))

pub invariant_of-result : goal.invariant_of-result
invariant_of-result c =
    let d : TableauData = record { rows = c.in_ok-first_rows.field-0.items; basic = c.in_ok-first_flags.field-0.items; prices = c.in_ok-first_prices.field-0.items; values = c.in_ok-values.values.items; spent = false } in
    let h : IsFirst c.args.program.now d = record { rows = c.in_ok-first_rows.ensures; basic = c.in_ok-first_flags.ensures; prices = c.in_ok-first_prices.ensures; values = c.in_ok-values.ensures.values } in
    λ fresh. (first_shaped c.args.program.now d h, ap length (c.new-2.ensures ∙ c.new.ensures.items))

pub returns-clause-value : goal.returns-clause-value
returns-clause-value c =
    let d : TableauData = record { rows = c.in_ok-first_rows.field-0.items; basic = c.in_ok-first_flags.field-0.items; prices = c.in_ok-first_prices.field-0.items; values = c.in_ok-values.values.items; spent = false } in
    let h : IsFirst c.args.program.now d = record { rows = c.in_ok-first_rows.ensures; basic = c.in_ok-first_flags.ensures; prices = c.in_ok-first_prices.ensures; values = c.in_ok-values.ensures.values } in
    first_shown c.args.program.now d h

pub returns-clause-room : goal.returns-clause-room
returns-clause-room c = (fits_in c.args.program.now.sense (meaning c.args.program.now)).1 c.in_ok-values.ensures.room
