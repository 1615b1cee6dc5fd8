use Rattle.std.proofs.Common.{◌≡◌, ◌<◌, true, List, length, sym, ap, ◌∙◌, subst}
use Rattle.std.specs.List.{All}
use Rattle.lp_model.specs.declared.terms.Term.{Term}
use Rattle.problem_model.specs.declared.line.Line.{Line}
use Rattle.problem_model.specs.Matrices.{line_at}
use Rattle.problem_model.specs.Problems.{row_at, column_at}
use Rattle.problem_model.specs.Sparse.{Sparse}
use Rattle.entry_lines.specs.Putting.{AreWithin, rows_held, held_of, line_puts, entries_set, GivesBack}
use Rattle.problem_data.proofs.Edited.{column_live}
use Rattle.entry_lines.proofs.Putting.{all_rows_live, all_gives_back, all_set, all_sound, counted_within, held_there, rows_inside}
use Rattle.problem_data.proofs.problem.ProblemData.set_entries.Goals as goal

pub line_with_terms-requires-clause-counted : goal.line_with_terms-requires-clause-counted
line_with_terms-requires-clause-counted c = subst AreWithin (sym c.as_slice.ensures.value) (counted_within c.self.inside.columns.items c.self.inside.rows.items c.self.invariant.matrix.columns)

pub rows_with-requires-clause-inside : goal.rows_with-requires-clause-inside
rows_with-requires-clause-inside c =
    let p : Sparse = record { matrix = record { rows = c.self.inside.rows.items; columns = c.self.inside.columns.items }; sides = c.self.inside.sides.items; bounds = c.self.inside.bounds.items; costs = c.self.inside.costs.items; offset = c.self.inside.offset; constant = c.self.inside.constant } in
    let live : All (λ (t : Term). (row_at p t.id).live ≡ true) c.args.terms.now = all_rows_live p c.args.self.now c.args.terms.now c.self.view_is c.requires.rows in
    subst (λ (ls : List Line). All (λ (t : Term). t.id < length ls) c.args.terms.now) (sym c.as_slice-2.ensures.value) (rows_inside p c.args.terms.now live)

pub rows_with-requires-clause-counted : goal.rows_with-requires-clause-counted
rows_with-requires-clause-counted c = subst AreWithin (sym c.as_slice-2.ensures.value) (counted_within c.self.inside.rows.items c.self.inside.columns.items c.self.invariant.matrix.rows)

pub exchange_all-requires : goal.exchange_all-requires
exchange_all-requires c =
    let p : Sparse = record { matrix = record { rows = c.self.inside.rows.items; columns = c.self.inside.columns.items }; sides = c.self.inside.sides.items; bounds = c.self.inside.bounds.items; costs = c.self.inside.costs.items; offset = c.self.inside.offset; constant = c.self.inside.constant } in
    let live : All (λ (t : Term). (row_at p t.id).live ≡ true) c.args.terms.now = all_rows_live p c.args.self.now c.args.terms.now c.self.view_is c.requires.rows in
    held_there c.in_ok-in_rows.in_rows.items p.matrix.rows c.as_slice-2.result.now c.args.j c.args.terms.now c.in_ok-in_rows.ensures c.as_slice-2.ensures.value (rows_inside p c.args.terms.now live)

pub invariant_of-self : goal.invariant_of-self
invariant_of-self c =
    let p : Sparse = record { matrix = record { rows = c.self.inside.rows.items; columns = c.self.inside.columns.items }; sides = c.self.inside.sides.items; bounds = c.self.inside.bounds.items; costs = c.self.inside.costs.items; offset = c.self.inside.offset; constant = c.self.inside.constant } in
    let live : All (λ (t : Term). (row_at p t.id).live ≡ true) c.args.terms.now = all_rows_live p c.args.self.now c.args.terms.now c.self.view_is c.requires.rows in
    let column = column_live p c.args.self.now c.args.j c.self.view_is c.requires.column in
    let rows_made : c.in_ok-in_rows.in_rows.items ≡ rows_held p.matrix.rows c.args.j c.args.terms.now = c.in_ok-in_rows.ensures ∙ ap (λ (ls : List Line). rows_held ls c.args.j c.args.terms.now) c.as_slice-2.ensures.value in
    let column_made : c.in_ok-in_column.in_column ≡ held_of c.args.j (line_puts c.args.terms.now (column_at p c.args.j)) =
    c.in_ok-in_column.ensures ∙ ap (λ (ls : List Line). held_of c.args.j (line_puts c.args.terms.now (line_at ls c.args.j))) c.as_slice.ensures.value in
    all_sound p c.args.j c.args.terms.now c.self.invariant live column c.requires.ascends c.exchange_all.new.lines.items c.exchange.new.lines.items c.in_ok-in_column.in_column c.in_ok-in_rows.in_rows.items
    c.exchange_all.ensures.lines c.exchange.ensures.lines rows_made column_made

pub returns-clause-set : goal.returns-clause-set
returns-clause-set c =
    let p : Sparse = record { matrix = record { rows = c.self.inside.rows.items; columns = c.self.inside.columns.items }; sides = c.self.inside.sides.items; bounds = c.self.inside.bounds.items; costs = c.self.inside.costs.items; offset = c.self.inside.offset; constant = c.self.inside.constant } in
    let live : All (λ (t : Term). (row_at p t.id).live ≡ true) c.args.terms.now = all_rows_live p c.args.self.now c.args.terms.now c.self.view_is c.requires.rows in
    let column = column_live p c.args.self.now c.args.j c.self.view_is c.requires.column in
    let rows_made : c.in_ok-in_rows.in_rows.items ≡ rows_held p.matrix.rows c.args.j c.args.terms.now = c.in_ok-in_rows.ensures ∙ ap (λ (ls : List Line). rows_held ls c.args.j c.args.terms.now) c.as_slice-2.ensures.value in
    let column_made : c.in_ok-in_column.in_column ≡ held_of c.args.j (line_puts c.args.terms.now (column_at p c.args.j)) =
    c.in_ok-in_column.ensures ∙ ap (λ (ls : List Line). held_of c.args.j (line_puts c.args.terms.now (line_at ls c.args.j))) c.as_slice.ensures.value in
    all_set p c.args.j c.args.terms.now c.self.invariant live column c.requires.ascends c.exchange_all.new.lines.items c.exchange.new.lines.items c.in_ok-in_column.in_column c.in_ok-in_rows.in_rows.items
    c.exchange_all.ensures.lines c.exchange.ensures.lines rows_made column_made ∙ ap (λ (q : Sparse). entries_set q c.args.j c.args.terms.now) c.self.view_is

pub returns-clause-back : goal.returns-clause-back
returns-clause-back c =
    let p : Sparse = record { matrix = record { rows = c.self.inside.rows.items; columns = c.self.inside.columns.items }; sides = c.self.inside.sides.items; bounds = c.self.inside.bounds.items; costs = c.self.inside.costs.items; offset = c.self.inside.offset; constant = c.self.inside.constant } in
    let live : All (λ (t : Term). (row_at p t.id).live ≡ true) c.args.terms.now = all_rows_live p c.args.self.now c.args.terms.now c.self.view_is c.requires.rows in
    let column = column_live p c.args.self.now c.args.j c.self.view_is c.requires.column in
    let rows_made : c.in_ok-in_rows.in_rows.items ≡ rows_held p.matrix.rows c.args.j c.args.terms.now = c.in_ok-in_rows.ensures ∙ ap (λ (ls : List Line). rows_held ls c.args.j c.args.terms.now) c.as_slice-2.ensures.value in
    let column_made : c.in_ok-in_column.in_column ≡ held_of c.args.j (line_puts c.args.terms.now (column_at p c.args.j)) =
    c.in_ok-in_column.ensures ∙ ap (λ (ls : List Line). held_of c.args.j (line_puts c.args.terms.now (line_at ls c.args.j))) c.as_slice.ensures.value in
    let q : Sparse = record p { matrix = record { rows = c.exchange_all.new.lines.items; columns = c.exchange.new.lines.items } } in
    subst (GivesBack (record { in_column = c.exchange.new.held; in_rows = c.exchange_all.new.held }) q) c.self.view_is
    (all_gives_back p c.args.j c.args.terms.now c.self.invariant live column c.requires.ascends q (record { in_column = c.exchange.new.held; in_rows = c.exchange_all.new.held }) c.in_ok-in_column.in_column c.in_ok-in_rows.in_rows.items
    (λ t. record p { matrix = record { rows = c.exchange_all.ensures.lines t; columns = c.exchange.ensures.lines t } }) rows_made column_made c.exchange_all.ensures.held c.exchange.ensures.held)
