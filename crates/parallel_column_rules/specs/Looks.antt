-- What is looked at of two columns.
use Rattle.std.specs.Prelude.{ℕ, Bool, false, not, ◌&&◌, nat_eq, Option, Some, None}
use Rattle.fractions.specs.Number.{Number, ◌*ℚ◌}
use Rattle.fractions.specs.Compare.{eq_ℚ}
use Rattle.problem_model.specs.declared.line.Bounds.{Bounds}
use Rattle.problem_model.specs.declared.part.Contents.{Contents}
use Rattle.problem_model.specs.Parts.{bounds_held}
use Rattle.problem_model.specs.Problems.{bounds_at, column_at, column_entries, cost_at}
use Rattle.problem_model.specs.Sparse.{Sparse}
use Rattle.rule_words.specs.Multiples.{are_times}
use Rattle.parallel_laws.specs.ParallelColumns.{are_in_order, are_of_a_kind}
use Rattle.parallel_column_rules.specs.Walks.{first_over}

-- both are live, and they differ
abbrev pub are_two : Sparse → ℕ → ℕ → Bool
are_two p j k = (column_at p j).live && ((column_at p k).live && not (nat_eq j k))

-- the first entry of column j over that of column k
abbrev pub factor_if : Sparse → ℕ → ℕ → Option Number
factor_if p j k = first_over (column_entries p j) (column_entries p k)

-- the bounds of a live column, as a part that holds them
abbrev pub held : Bounds → Contents
held b = bounds_held b.semi b.lower b.upper b.whole

-- column j is s times column k
abbrev pub is_times : Sparse → ℕ → ℕ → Number → Bool
is_times p j k s = eq_ℚ (cost_at p j) (s *ℚ cost_at p k) && are_times s (column_entries p j) (column_entries p k)

-- and their bounds let them join
abbrev pub joins_by : Sparse → ℕ → ℕ → Number → Bool
joins_by p j k s = are_in_order (held (bounds_at p j)) (held (bounds_at p k)) && (are_of_a_kind s (held (bounds_at p j)) (held (bounds_at p k)) && is_times p j k s)

abbrev pub joins_if : Sparse → ℕ → ℕ → Option Number → Bool
joins_if p j k None = false
joins_if p j k (Some s) = joins_by p j k s
