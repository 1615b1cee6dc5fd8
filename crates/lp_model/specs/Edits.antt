-- The elementary changes of a linear program, each by original ids: a row or column that is deleted keeps its id.
use Rattle.std.specs.Prelude.{ℕ, false, Option, None}
use Rattle.fractions.specs.Number.{Number, zero_ℚ, ◌*ℚ◌}
use Rattle.fractions.specs.Total.{put}
use Rattle.fractions.specs.Ends.{less}
use Rattle.lp_model.specs.LinearProgram.{LinearProgram}

-- row i deleted: no coefficients, no sides
abbrev pub without_row : LinearProgram → ℕ → LinearProgram
without_row M i = record M {
  coefficient = put M.coefficient i (λ j. zero_ℚ);
  lower_side = put M.lower_side i None;
  upper_side = put M.upper_side i None;
}

-- column j deleted where x_j is v: no coefficients, no cost, no bounds; what it gave to each row leaves the row's sides
abbrev pub without_column : LinearProgram → ℕ → Number → LinearProgram
without_column M j v = record M {
  coefficient = λ i. put (M.coefficient i) j zero_ℚ;
  lower_side = λ i. less (M.lower_side i) (M.coefficient i j *ℚ v);
  upper_side = λ i. less (M.upper_side i) (M.coefficient i j *ℚ v);
  lower_bound = put M.lower_bound j None;
  upper_bound = put M.upper_bound j None;
  whole = put M.whole j false;
  gap = put M.gap j None;
  costs = put M.costs j zero_ℚ;
}

-- new bounds of column j
abbrev pub with_bounds : LinearProgram → ℕ → Option Number → Option Number → LinearProgram
with_bounds M j l u = record M { lower_bound = put M.lower_bound j l; upper_bound = put M.upper_bound j u }

-- new sides of row i
abbrev pub with_sides : LinearProgram → ℕ → Option Number → Option Number → LinearProgram
with_sides M i l u = record M { lower_side = put M.lower_side i l; upper_side = put M.upper_side i u }

-- the coefficient c at (i, j)
abbrev pub with_coefficient : LinearProgram → ℕ → ℕ → Number → LinearProgram
with_coefficient M i j c = record M { coefficient = put M.coefficient i (put (M.coefficient i) j c) }

-- the cost c of column j
abbrev pub with_cost : LinearProgram → ℕ → Number → LinearProgram
with_cost M j c = record M { costs = put M.costs j c }
