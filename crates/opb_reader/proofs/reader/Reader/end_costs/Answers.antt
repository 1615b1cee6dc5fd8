use Rattle.std.proofs.Common.{◌∙◌, sym}
use Rattle.opb_reader.proofs.Ending.{costs_ended, costs_past, terms_past}
use Rattle.opb_reader.proofs.Tables.{costs_end, silent_costs}
use Rattle.opb_reader.proofs.reader.Reader.end_costs.Goals as goal

pub returns-then-not-sums_fit : goal.returns-then-not-sums_fit
returns-then-not-sums_fit c = λ tokens rows columns none silent. terms_past tokens _ _ (sym c.if-not-sums_fit.true ∙ c.sums_fit.ensures _ _ _ _ columns)

pub returns-then-not-end_costs : goal.returns-then-not-end_costs
returns-then-not-end_costs c = λ tokens rows columns none silent.
    costs_past tokens _ _ none (sym c.if-not-sums_fit.false ∙ c.sums_fit.ensures _ _ _ _ columns) (sym c.if-not-end_costs.true ∙ c.end_costs.ensures.fits tokens rows)

pub returns : goal.returns
returns c = λ tokens rows columns none silent.
    let fits = c.sums_fit.ensures _ _ _ _ columns in
    costs_ended tokens _ _ none (sym c.if-not-sums_fit.false ∙ fits) (sym c.if-not-end_costs.false ∙ c.end_costs.ensures.fits tokens rows)
    (c.end_costs.ensures.held tokens rows none c.if-not-end_costs.false)
    (costs_end tokens _ none (c.end_costs-2.ensures _ _ _ (silent_costs tokens _ columns silent) (sym fits ∙ c.if-not-sums_fit.false)))
