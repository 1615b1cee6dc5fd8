use Rattle.std.proofs.Common.{◌∙◌, List, ap, sym}
use Rattle.lp_model.specs.declared.terms.Term.{Term}
use Rattle.lp_model.specs.Sparse.{has}
use Rattle.problem_laws.proofs.Entries.{column_entries-has}
use Rattle.column_rules.proofs.sole_entry.is_in_column.Goals as goal

pub returns : goal.returns
returns c = c.has_id.ensures ∙ ap (λ (ts : List Term). has c.args.row ts) c.entries_of_column.ensures ∙ sym (column_entries-has c.args.problem.now c.args.column c.args.row c.requires.row)
