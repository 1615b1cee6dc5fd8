use Rattle.std.proofs.Common.{◌∙◌, ap, sym, refl}
use Rattle.aggregation_rules.specs.declared.equation.Equation.{Equation}
use Rattle.aggregation_rules.proofs.Looks.{first_some, second_some}
use Rattle.aggregation_rules.proofs.Joining.{computes, edits_are, others_ascend, others_live}
use Rattle.aggregation_rules.proofs.doubleton_equation.edits_for.Goals as goal

pub quotients_of-requires : goal.quotients_of-requires
quotients_of-requires c = λ z. first_some c.args.problem.now c.args.row c.args.column c.args.other c.is_sparse.ensures c.requires.pair (sym (ap (λ (x : Equation). x.value) c.requires.equation) ∙ z)

pub new_entries-requires-clause-rows : goal.new_entries-requires-clause-rows
new_entries-requires-clause-rows c = others_live c.args.problem.now c.args.row c.args.column c.args.terms.now c.requires.terms

pub new_entries-requires-clause-ascends : goal.new_entries-requires-clause-ascends
new_entries-requires-clause-ascends c = others_ascend c.args.problem.now c.args.row c.args.column c.args.terms.now c.is_sparse.ensures c.requires.terms

pub add_sides-requires : goal.add_sides-requires
add_sides-requires c = others_live c.args.problem.now c.args.row c.args.column c.args.terms.now c.requires.terms

pub new_bounds-requires-clause-value : goal.new_bounds-requires-clause-value
new_bounds-requires-clause-value c = λ z. second_some c.args.problem.now c.args.row c.args.column c.args.other c.is_sparse.ensures c.requires.pair (sym (ap (λ (x : Equation). x.kept_value) c.requires.equation) ∙ z)

pub returns : goal.returns
returns c =
    let quotients = c.in-Ok.ensures.fits.0 refl in
    let costs = c.in-Ok-new_costs.ensures.fits.0 refl in
    let range = c.in-Ok-new_bounds.ensures.fits.0 refl in (
      computes c.args.problem.now c.args.row c.args.column c.args.other c.args.equation.now c.in-Ok.quotients.factor c.in-Ok.quotients.shift c.requires.equation c.in-Ok.ensures.factor c.in-Ok.ensures.shift
          c.args.terms.now c.requires.terms quotients.0 quotients.1 c.in-Ok-new_entries.ensures.0 c.in_default-add_sides.ensures.0 costs.0 costs.1 range.0 range.1,
      tt,
      edits_are c.args.problem.now c.args.row c.args.column c.args.other c.args.equation.now c.in-Ok.quotients.factor c.in-Ok.quotients.shift c.requires.equation c.in-Ok.ensures.factor c.in-Ok.ensures.shift
          c.args.terms.now c.in-Ok-new_entries.all.items c.add_sides.new.all.items c.add_joined.new.all.items c.in-Ok-new_costs.costs.cost c.in-Ok-new_costs.costs.amount c.in-Ok-new_bounds.range.lower c.in-Ok-new_bounds.range.upper
          c.requires.terms c.in-Ok-new_entries.ensures.2 c.in_default-add_sides.ensures.2 c.in_ok-add_joined.ensures
          c.in-Ok-new_costs.ensures.cost c.in-Ok-new_costs.ensures.amount c.in-Ok-new_bounds.ensures.lower c.in-Ok-new_bounds.ensures.upper,
    )
