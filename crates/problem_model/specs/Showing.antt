-- The linear program that a problem shows: with original ids, to be minimized. What is deleted has no coefficients, no ends and no cost.
use Rattle.std.specs.Prelude.{ℕ, Bool, ◌&&◌, length, Option, None, if◌then◌else◌}
use Rattle.fractions.specs.Number.{Number, zero_ℚ}
use Rattle.lp_model.specs.Sparse.{dense}
use Rattle.lp_model.specs.LinearProgram.{LinearProgram}
use Rattle.problem_model.specs.Problems.{row_at, column_at, sides_at, bounds_at, cost_at}
use Rattle.problem_model.specs.Sparse.{Sparse}
use Rattle.lp_model.specs.Gaps.{Gap, gap_of, reach_lower, reach_upper}
use Rattle.problem_model.specs.declared.line.Bounds.{Bounds}

abbrev pub coefficient_of : Sparse → ℕ → ℕ → Number
coefficient_of p i j = if (row_at p i).live && (column_at p j).live then dense (row_at p i).entries j else zero_ℚ

-- an end of a live row or column
abbrev pub end_if : Bool → Option Number → Option Number
end_if live e = if live then e else None

-- the ends between which each value of a column lies
abbrev pub reach_low : Bounds → Option Number
reach_low b = reach_lower b.semi b.lower b.upper

abbrev pub reach_high : Bounds → Option Number
reach_high b = reach_upper b.semi b.lower b.upper

-- the gap of a live column
abbrev pub gap_if : Bool → Bounds → Option Gap
gap_if live b = if live then gap_of b.semi b.lower b.upper else None

abbrev pub shown : Sparse → LinearProgram
shown p = record {
  rows = length p.matrix.rows;
  columns = length p.matrix.columns;
  coefficient = coefficient_of p;
  lower_side = λ i. end_if (row_at p i).live (sides_at p i).lower;
  upper_side = λ i. end_if (row_at p i).live (sides_at p i).upper;
  lower_bound = λ j. end_if (column_at p j).live (reach_low (bounds_at p j));
  upper_bound = λ j. end_if (column_at p j).live (reach_high (bounds_at p j));
  whole = λ j. (column_at p j).live && (bounds_at p j).whole;
  gap = λ j. gap_if (column_at p j).live (bounds_at p j);
  costs = λ j. if (column_at p j).live then cost_at p j else zero_ℚ;
  constant = p.constant;
}
