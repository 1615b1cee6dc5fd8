use Rattle.std.proofs.Common.{◌∙◌, List, ap, sym}
use Rattle.lp_model.specs.declared.terms.Term.{Term}
use Rattle.lp_model.specs.Sparse.{dense}
use Rattle.problem_laws.proofs.Entries.{row_entries-dense}
use Rattle.aggregation_rules.proofs.equation.entry_of.Goals as goal

pub returns : goal.returns
returns c = c.number_at.ensures ∙ ap (λ (ts : List Term). dense ts c.args.column) c.entries_of_row.ensures ∙ sym (row_entries-dense c.args.problem.now c.args.row c.args.column c.requires.column)
