use Rattle.std.proofs.Common.{subst, length, refl, sym, ap, ap₂, ◌∙◌}
use Rattle.std.specs.List.{All}
use Rattle.std.proofs.lemmas.List.{length-map}
use Rattle.std.proofs.lemmas.List.Elements.{All-tail}
use Rattle.lp_model.specs.Name.{IsName}
use Rattle.lp_model.specs.Names.{names_of_columns, names_of_rows}
use Rattle.lp_model.specs.ProgramData.{ProgramData}
use Rattle.lp_model.specs.Turning.{signed}
use Rattle.undo_records.specs.Postsolve.{Postsolve}
use Rattle.problem_model.specs.Sparse.{Sparse}
use Rattle.presolve_model.specs.Telling.{are_live, IsToldOf}
use Rattle.run_laws.proofs.Telling.{are_told, problem_is_of, told_sound}
use Rattle.presolve_rounds.specs.Sources.{emptied}
use Rattle.presolve_rounds.proofs.Sources.{told_kept}
use Rattle.presolve_rounds.proofs.labels.left_of.Goals as goal
use Rattle.presolve_rounds.proofs.labels.left_of.Goals.{After-sense-2}

pub row_labels-requires : goal.row_labels-requires
row_labels-requires c =
    ap length (c.rows-2.ensures ∙ ap (λ (p : Sparse). p.matrix.rows) c.problem.ensures)
    ∙ (problem_is_of c.args.source.now.given c.args.book c.requires.start c.stands.ensures.stands).rows
    ∙ sym (ap length (c.rows.ensures ∙ ap (λ (p : ProgramData). p.rows) (c.kept-program.ensures ∙ c.requires.kept)))

pub column_labels-requires : goal.column_labels-requires
column_labels-requires c =
    ap length (c.columns-2.ensures ∙ ap (λ (p : Sparse). p.matrix.columns) c.problem-2.ensures)
    ∙ (problem_is_of c.args.source.now.given c.args.book c.requires.start c.stands.ensures.stands).columns
    ∙ sym (ap length (c.columns.ensures ∙ ap (λ (p : ProgramData). p.columns) (c.kept-program.ensures ∙ c.requires.kept)) ∙ length-map c.args.source.now.given.columns emptied)

-- what is told of the book
abbrev told : After-sense-2 → Postsolve
told c = record { sense = c.sense-2.result; duals = c.args.dual; columns = c.in_ok-columns.columns.items; rows = c.in_ok-rows.rows.items; offset = c.in_sense-offset.result; undos = c.close-ended.result.records.items; transactions = c.close-ended.result.transactions }

is_told : (c : After-sense-2) → IsToldOf c.args.dual c.args.source.now.given c.args.book (told c)
is_told c = told_kept c.args.dual c.args.source.now.given c.args.source.now.kept c.args.book (told c) c.requires.kept (record {
  sense = c.sense-2.ensures ∙ ap (λ (p : ProgramData). p.sense) c.kept-program.ensures;
  duals = refl;
  undos = c.close-ended.ensures.records;
  transactions = c.close-ended.ensures.transactions;
  offset = c.in_sense-offset.ensures ∙ ap₂ (λ s q. signed s q) (c.sense.ensures ∙ ap (λ (p : ProgramData). p.sense) c.kept-program.ensures) (c.offset.ensures ∙ ap (λ (p : Sparse). p.offset) c.problem-3.ensures);
  row_names = c.in_ok-rows.ensures.names ∙ ap names_of_rows (c.rows.ensures ∙ ap (λ (p : ProgramData). p.rows) c.kept-program.ensures);
  column_names = c.in_ok-columns.ensures.names ∙ ap names_of_columns (c.columns.ensures ∙ ap (λ (p : ProgramData). p.columns) c.kept-program.ensures);
  rows = c.in_ok-rows.ensures.live ∙ ap are_live (c.rows-2.ensures ∙ ap (λ (p : Sparse). p.matrix.rows) c.problem.ensures);
  columns = c.in_ok-columns.ensures.live ∙ ap are_live (c.columns-2.ensures ∙ ap (λ (p : Sparse). p.matrix.columns) c.problem-2.ensures);
})

pub new-records-requires-clause-sound : goal.new-records-requires-clause-sound
new-records-requires-clause-sound c = told_sound c.args.dual c.args.source.now.given c.args.book (told c) c.requires.start c.stands.ensures.stands (is_told c)

pub new-records-requires-clause-told : goal.new-records-requires-clause-told
new-records-requires-clause-told c = are_told c.args.dual c.args.source.now.given c.args.book (told c) c.requires.start c.stands.ensures.stands (is_told c)

pub new-records-requires-clause-named : goal.new-records-requires-clause-named
new-records-requires-clause-named c = record {
  rows = subst (All IsName) (sym (c.in_ok-rows.ensures.names ∙ ap names_of_rows c.rows.ensures))
      (All-tail IsName c.kept-program.result.now.objective (names_of_rows c.kept-program.result.now.rows) c.objective-name.ensures.named.row_names);
  columns = subst (All IsName) (sym (c.in_ok-columns.ensures.names ∙ ap names_of_columns c.columns.ensures)) c.objective-name.ensures.named.column_names;
}

pub returns-clause-told : goal.returns-clause-told
returns-clause-told c =
    let program : ProgramData = c.args.source.now.given in
    let told : Postsolve = record { sense = c.sense-2.result; duals = c.args.dual; columns = c.in_ok-columns.columns.items; rows = c.in_ok-rows.rows.items; offset = c.in_sense-offset.result; undos = c.close-ended.result.records.items; transactions = c.close-ended.result.transactions } in
    let is : IsToldOf c.args.dual c.args.source.now.kept c.args.book told = record {
      sense = c.sense-2.ensures ∙ ap (λ (p : ProgramData). p.sense) c.kept-program.ensures;
      duals = refl;
      undos = c.close-ended.ensures.records;
      transactions = c.close-ended.ensures.transactions;
      offset = c.in_sense-offset.ensures ∙ ap₂ (λ s q. signed s q) (c.sense.ensures ∙ ap (λ (p : ProgramData). p.sense) c.kept-program.ensures) (c.offset.ensures ∙ ap (λ (p : Sparse). p.offset) c.problem-3.ensures);
      row_names = c.in_ok-rows.ensures.names ∙ ap names_of_rows (c.rows.ensures ∙ ap (λ (p : ProgramData). p.rows) c.kept-program.ensures);
      column_names = c.in_ok-columns.ensures.names ∙ ap names_of_columns (c.columns.ensures ∙ ap (λ (p : ProgramData). p.columns) c.kept-program.ensures);
      rows = c.in_ok-rows.ensures.live ∙ ap are_live (c.rows-2.ensures ∙ ap (λ (p : Sparse). p.matrix.rows) c.problem.ensures);
      columns = c.in_ok-columns.ensures.live ∙ ap are_live (c.columns-2.ensures ∙ ap (λ (p : Sparse). p.matrix.columns) c.problem-2.ensures);
    } in
    subst (IsToldOf c.args.dual program c.args.book) (sym c.new-records.ensures) (told_kept c.args.dual program c.args.source.now.kept c.args.book told c.requires.kept is)
