-- What is computed for a column's terms.
use Rattle.std.specs.Prelude.{ℕ}
use Rattle.fractions.specs.Number.{Number}
use Rattle.lp_model.specs.Sparse.{dense}
use Rattle.lp_model.specs.declared.terms.Term.{Term}
use Rattle.undo_records.specs.Fitting.{LessProductFits}
use Rattle.problem_model.specs.Problems.{column_entries}
use Rattle.problem_model.specs.Sparse.{Sparse}

-- the new entry
abbrev pub EntryFits : Sparse → ℕ → Number → Term → Type 0
EntryFits p k q t = LessProductFits (dense (column_entries p k) t.id) t.value q
