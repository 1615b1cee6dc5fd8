use Rattle.std.proofs.Common.{◌∙◌, List, ap, sym}
use Rattle.lp_model.specs.declared.terms.Term.{Term}
use Rattle.lp_model.specs.Sparse.{dense}
use Rattle.column_rules.proofs.SoleEntries.{entry_some, value_told}
use Rattle.column_rules.proofs.sole_entry.value_at.Goals as goal

pub returns-clause-value : goal.returns-clause-value
returns-clause-value c = c.number_at.ensures ∙ ap (λ (ts : List Term). dense ts c.args.row) c.entries_of_column.ensures ∙ value_told c.args.problem.now c.args.column c.args.row c.is_sparse.ensures c.requires.row c.requires.column

pub returns-clause-some : goal.returns-clause-some
returns-clause-some c = λ e. entry_some c.args.problem.now c.args.column c.args.row c.is_sparse.ensures c.requires.row c.requires.column c.requires.sole
    (sym (c.number_at.ensures ∙ ap (λ (ts : List Term). dense ts c.args.row) c.entries_of_column.ensures ∙ value_told c.args.problem.now c.args.column c.args.row c.is_sparse.ensures c.requires.row c.requires.column) ∙ e)
