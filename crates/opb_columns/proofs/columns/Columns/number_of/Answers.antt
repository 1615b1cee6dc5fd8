use Rattle.std.proofs.Common.{◌∙◌, ◌++◌, ◌∷◌, [], List, ap, subst}
use Rattle.fractions.specs.Number.{Number}
use Rattle.lp_model.specs.declared.terms.Term.{Term}
use Rattle.names.specs.Names.{IsTaken}
use Rattle.names.specs.declared.Named.{Named}
use Rattle.opb_columns.proofs.Pushing.{fresh_column, known_column}
use Rattle.opb_columns.proofs.columns.Columns.number_of.Goals as goal

pub returns-in_ok-grow-in-Fresh : goal.returns-in_ok-grow-in-Fresh
returns-in_ok-grow-in-Fresh c = λ names cost entries summed h unsaid.
    let taken = subst (λ (n : Named). IsTaken n c.args.name.now c.args.self.now.names c.insert.new.self) c.in-Fresh.is c.in_ok-column.ensures.taken in
    fresh_column names cost entries summed c.args.name.now c.args.self.now (record { names = c.insert.new.self; costs = c.push.new.self; terms = c.push-in-Fresh.new.self; sums = c.grow.new.self }) c.in-Fresh.column h unsaid taken
    (c.in_ok-push-in-Fresh.ensures.items ∙ ap (λ (cost : Number). c.args.self.now.costs.items ++ cost ∷ []) c.zero.ensures.value)
    (c.in_ok-push-in-Fresh-2.ensures.items ∙ ap (λ (terms : List Term). c.args.self.now.terms.items ++ terms ∷ []) c.empty.ensures)
    c.in_ok-grow-in-Fresh.ensures.values
    (ap (λ v. v.items) c.in_ok-grow-in-Fresh.ensures.touched) c.in_ok-grow-in-Fresh.ensures.fits

pub returns-in-Known : goal.returns-in-Known
returns-in-Known c = λ names cost entries summed h unsaid.
    let taken = subst (λ (n : Named). IsTaken n c.args.name.now c.args.self.now.names c.insert.new.self) c.in-Known.is c.in_ok-column.ensures.taken in
    known_column names cost entries summed c.args.name.now c.args.self.now c.insert.new.self c.in-Known.column h taken
