use Rattle.std.proofs.Common.{◌∙◌, sym}
use Rattle.opb_reader.proofs.Ending.{constraint_ended, constraint_past, id_is, row_few, terms_past}
use Rattle.opb_reader.proofs.Tables.{constraint_ends}
use Rattle.opb_reader.proofs.reader.Reader.end_constraint.Goals as goal

pub returns-then-not-sums_fit : goal.returns-then-not-sums_fit
returns-then-not-sums_fit c = λ tokens rows columns number some shape short. terms_past tokens _ _ (sym c.if-not-sums_fit.true ∙ c.sums_fit.ensures _ _ _ _ columns)

pub returns-then-not-branch : goal.returns-then-not-branch
returns-then-not-branch c = λ tokens rows columns number some shape short.
    constraint_past tokens _ _ some (sym c.if-not-sums_fit.false ∙ c.sums_fit.ensures _ _ _ _ columns) (sym c.if-not-branch.true ∙ c.in_ok-end_constraint.ensures.fits tokens rows number)

pub returns : goal.returns
returns c = λ tokens rows columns number some shape short.
    let fits = c.sums_fit.ensures _ _ _ _ columns in
    constraint_ended tokens _ _ some (sym c.if-not-sums_fit.false ∙ fits) (sym c.if-not-branch.false ∙ c.in_ok-end_constraint.ensures.fits tokens rows number)
    (c.in_ok-end_constraint.ensures.held tokens rows number some (row_few tokens short) c.if-not-branch.false)
    (constraint_ends tokens c.next_id-id.result _ some shape (id_is tokens c.args.self.now.rows c.next_id-id.result rows some short c.next_id-id.ensures)
    (c.in_ok-end_row.ensures _ _ _ _ columns (sym fits ∙ c.if-not-sums_fit.false)))
