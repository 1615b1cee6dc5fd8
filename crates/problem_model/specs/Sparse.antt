-- A problem as data.
use Rattle.std.specs.Prelude.{List}
use Rattle.fractions.specs.Number.{Number}
use Rattle.problem_model.specs.declared.line.Sides.{Sides}
use Rattle.problem_model.specs.declared.line.Bounds.{Bounds}
use Rattle.problem_model.specs.Grids.{Grid}

-- Rows and columns, the rows' sides, the columns' bounds and costs, what was added to the cost, and the constant.
-- Costs, what was added and the constant are in the minimizing sense.
pub record Sparse : Type 0 where
  pub matrix : Grid
  pub sides : List Sides
  pub bounds : List Bounds
  pub costs : List Number
  pub offset : Number
  pub constant : Number
