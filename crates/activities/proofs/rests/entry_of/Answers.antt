use Rattle.std.proofs.Common.{◌∙◌, sym}
use Rattle.problem_laws.proofs.Entries.{row_entries-dense}
use Rattle.activities.proofs.RowLooks.{none_in}
use Rattle.activities.proofs.rests.entry_of.Goals as goal

pub returns-then-not-is_column_live : goal.returns-then-not-is_column_live
returns-then-not-is_column_live c = c.zero.ensures.value ∙ sym (none_in c.args.problem.now c.args.row c.args.column (sym c.is_column_live.ensures ∙ c.if-not-is_column_live.true))

pub returns : goal.returns
returns c = c.number_in.ensures ∙ sym (row_entries-dense c.args.problem.now c.args.row c.args.column (sym c.is_column_live.ensures ∙ c.if-not-is_column_live.false))
