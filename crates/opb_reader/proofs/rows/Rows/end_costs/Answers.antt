use Rattle.std.proofs.Common.{◌∙◌, ℤ, List, refl, sym, ap₂, reverse}
use Rattle.opb_text.specs.Statements.{left_of}
use Rattle.opb_reader.proofs.HeldRows.{costs_end, costs_fit}
use Rattle.opb_reader.proofs.Sums.{not_true}
use Rattle.opb_reader.proofs.rows.Rows.end_costs.Goals as goal

pub returns-in_default-clause-fits : goal.returns-in_default-clause-fits
returns-in_default-clause-fits c = λ tokens h.
    not_true _ (λ fits. c.in_default.ensures (costs_fit tokens c.args.self.now c.natural.result c.as_slice.result.now h c.natural.ensures c.as_slice.ensures.value ∙ fits))

pub returns-clause-fits : goal.returns-clause-fits
returns-clause-fits c = λ tokens h. sym c.in-Ok.ensures.0 ∙ costs_fit tokens c.args.self.now c.natural.result c.as_slice.result.now h c.natural.ensures c.as_slice.ensures.value

pub returns-clause-held : goal.returns-clause-held
returns-clause-held c = λ tokens h none is.
    costs_end tokens c.in-Ok.less c.args.self.now _ h none
    (c.in-Ok.ensures.1 ∙ ap₂ (λ (z : ℤ) (ns : List ℤ). left_of z (reverse ns)) c.natural.ensures c.as_slice.ensures.value) refl refl refl c.negated-self.ensures c.clear.ensures.items
