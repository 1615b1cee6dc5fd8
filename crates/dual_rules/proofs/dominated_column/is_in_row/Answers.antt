use Rattle.std.proofs.Common.{◌∙◌, ap, sym}
use Rattle.lp_model.specs.Sparse.{has}
use Rattle.problem_laws.proofs.Entries.{row_entries-has}
use Rattle.dual_rules.proofs.dominated_column.is_in_row.Goals as goal

pub returns : goal.returns
returns c = c.has_id.ensures ∙ ap (has c.args.column) c.entries_of_row.ensures ∙ sym (row_entries-has c.args.problem.now c.args.row c.args.column c.requires.column)
