-- Columns with one entry.
use Rattle.std.specs.Prelude.{ℕ, nat_eq, Bool, List, length}
use Rattle.std.specs.List.{filter}
use Rattle.problem_model.specs.Problems.{column_entries}
use Rattle.problem_model.specs.Sparse.{Sparse}

abbrev pub has_one : Sparse → ℕ → Bool
has_one p j = nat_eq (length (column_entries p j)) 1

-- those of some columns
abbrev pub soles : Sparse → List ℕ → List ℕ
soles p js = filter (has_one p) js
