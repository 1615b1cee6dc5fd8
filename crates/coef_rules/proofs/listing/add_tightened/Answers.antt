use Rattle.std.proofs.Common.{◌∙◌, sym, ap}
use Rattle.problem_model.specs.declared.line.Sides.{Sides}
use Rattle.coef_laws.specs.CoefficientTightening.{one_side}
use Rattle.coef_rules.proofs.Columns.{all_found, none_short, none_where_crossed, none_without_side, none_without_whole}
use Rattle.coef_rules.proofs.listing.add_tightened.Goals as goal

pub returns-then-not-is_uncrossed : goal.returns-then-not-is_uncrossed
returns-then-not-is_uncrossed c = none_where_crossed c.args.problem.now c.args.row c.args.found.now.items (sym c.is_uncrossed.ensures ∙ c.if-not-is_uncrossed.true)

pub returns-in_default : goal.returns-in_default
returns-in_default c = none_without_side c.args.problem.now c.args.row c.args.found.now.items
    (sym (c.one_side.ensures ∙ ap (λ (s : Sides). one_side s.lower s.upper) c.sides.ensures) ∙ c.in_default.is)

pub returns-then-not-has_whole : goal.returns-then-not-has_whole
returns-then-not-has_whole c = none_without_whole c.args.problem.now c.args.row c.args.found.now.items (sym c.has_whole.ensures ∙ c.if-not-has_whole.true)

pub returns-then-not-may_shrink : goal.returns-then-not-may_shrink
returns-then-not-may_shrink c = none_short c.args.problem.now c.args.row c.args.found.now.items c.in-Some.only.0 c.in-Some.only.1
    (sym (c.one_side.ensures ∙ ap (λ (s : Sides). one_side s.lower s.upper) c.sides.ensures) ∙ c.in-Some.is) (c.may_shrink.ensures c.if-not-may_shrink.true)

pub returns : goal.returns
returns c = all_found c.args.problem.now c.args.row c.in-Some.only.0 c.in-Some.only.1 c.in_ok-sums.sums c.args.found.now.items c.add_columns.new.found.items (sym c.is_uncrossed.ensures ∙ c.if-not-is_uncrossed.false)
    (sym (c.one_side.ensures ∙ ap (λ (s : Sides). one_side s.lower s.upper) c.sides.ensures) ∙ c.in-Some.is) c.in_ok-sums.ensures c.in_ok-add_columns.ensures
