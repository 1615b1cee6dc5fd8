-- What is looked at of two rows.
use Rattle.std.specs.Prelude.{ℕ, Bool, false, not, ◌&&◌, nat_eq, List, length, Option, Some, None}
use Rattle.fractions.specs.Number.{Number}
use Rattle.lp_model.specs.declared.terms.Term.{Term}
use Rattle.problem_model.specs.Problems.{row_at, row_entries}
use Rattle.problem_model.specs.Sparse.{Sparse}
use Rattle.rule_words.specs.Multiples.{are_times}
use Rattle.parallel_column_rules.specs.Walks.{first_over}

-- both are live, and they differ
abbrev pub are_two : Sparse → ℕ → ℕ → Bool
are_two p i k = (row_at p i).live && ((row_at p k).live && not (nat_eq i k))

-- they have as many entries
abbrev pub are_as_many : Sparse → ℕ → ℕ → Bool
are_as_many p i k = nat_eq (length (row_entries p i)) (length (row_entries p k))

-- the first entry of row i over that of row k
abbrev pub factor_if : Sparse → ℕ → ℕ → Option Number
factor_if p i k = first_over (row_entries p i) (row_entries p k)

-- terms are a number times others, if there is one
abbrev pub are_times_if : Option Number → List Term → List Term → Bool
are_times_if None ts us = false
are_times_if (Some s) ts us = are_times s ts us

-- row i is that number times row k
abbrev pub is_times : Sparse → ℕ → ℕ → Bool
is_times p i k = are_times_if (factor_if p i k) (row_entries p i) (row_entries p k)
