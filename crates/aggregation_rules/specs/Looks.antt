-- What is looked at of an equation of two columns.
use Rattle.std.specs.Prelude.{ℕ, Bool, false, not, ◌&&◌}
use Rattle.lp_model.specs.EndTests.{is_fixed, is_in_order}
use Rattle.problem_model.specs.Problems.{row_at, column_at, row_entries, sides_at, bounds_at}
use Rattle.problem_model.specs.Sparse.{Sparse}
use Rattle.aggregation_rules.specs.declared.equation.Equation.{Equation}
use Rattle.aggregation_laws.specs.DoubletonEquation.{are_at, entry_at, equal_of, stays_whole}

-- a live row has an entry in each of two live columns, and no other one
abbrev pub is_pair : Sparse → ℕ → ℕ → ℕ → Bool
is_pair p i j k = (row_at p i).live && ((column_at p j).live && ((column_at p k).live && are_at j k (row_entries p i)))

-- a column is not semi-continuous, and its bounds are not crossed
abbrev pub is_open : Sparse → ℕ → Bool
is_open p j = not (bounds_at p j).semi && is_in_order (bounds_at p j).lower (bounds_at p j).upper

-- its sides are one number, and so it is with both columns
abbrev pub is_in_range : Sparse → ℕ → ℕ → ℕ → Bool
is_in_range p i j k = is_fixed (sides_at p i).lower (sides_at p i).upper false && (is_open p j && is_open p k)

-- what is whole stays so
abbrev pub keeps_whole : Sparse → ℕ → ℕ → ℕ → Bool
keeps_whole p i j k = stays_whole (bounds_at p j).whole (bounds_at p k).whole (entry_at p i j) (entry_at p i k) (equal_of p i)

-- its numbers
abbrev pub equation_at : Sparse → ℕ → ℕ → ℕ → Equation
equation_at p i j k = record { value = entry_at p i j; kept_value = entry_at p i k; equal = equal_of p i }
