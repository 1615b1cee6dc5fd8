use Rattle.std.proofs.Common.{List, ℕ, sym, subst}
use Rattle.std.specs.List.{Contains}
use Rattle.presolve_model.specs.declared.instance.Reach.TheVariants as reach
use Rattle.place_laws.specs.Choosing.{HoldsLed}
use Rattle.round_marks.proofs.Sorting.{holds_around}
use Rattle.round_marks.proofs.around.Around.of_parts.Goals as goal

pub rows_of_both-requires : goal.rows_of_both-requires
rows_of_both-requires c = subst (λ (ids : List ℕ). HoldsLed c.args.problem.now reach.ColumnsOfSides c.args.roused.now ids) (sym c.as_slice.ensures.value) c.in_ok-columns_roused.ensures.holds

pub sole_columns-requires : goal.sole_columns-requires
sole_columns-requires c = subst (λ (ids : List ℕ). HoldsLed c.args.problem.now reach.RowsOfBounds c.args.noted.now ids) (sym c.as_slice-2.ensures.value) c.in_ok-rows_of_bounds.ensures.holds

pub returns-clause-holds : goal.returns-clause-holds
returns-clause-holds c =
    λ m x y z.
    holds_around c.args.problem.now m c.args.noted.now c.args.stirred.now c.args.roused.now _ x y z c.in_ok-own.ensures.holds c.in_ok-rows_of_bounds.ensures.holds c.in_ok-columns_of_sides.ensures.holds c.in_ok-rows_of_both.ensures.holds c.in_ok-sole_columns.ensures.holds (c.in_ok-rows_beside.ensures.holds c.args.noted.now (λ a i h d. subst (λ (ids : List ℕ). Contains ids i) (sym c.rows.ensures) (c.in_ok-own.ensures.holds.rows a i h d)))
    (c.in_ok-columns_beside.ensures.holds c.args.noted.now (λ a j h d. subst (λ (ids : List ℕ). Contains ids j) (sym c.columns.ensures) (c.in_ok-own.ensures.holds.columns a j h d)))
