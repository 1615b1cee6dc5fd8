-- Problems of the same size.
use Rattle.std.specs.Prelude.{◌≡◌, length}
use Rattle.problem_model.specs.Sparse.{Sparse}

-- the same numbers of rows and columns, of sides and bounds, and the same constant
pub record SameSize (p q : Sparse) : Type 0 where
  pub rows : length q.matrix.rows ≡ length p.matrix.rows
  pub columns : length q.matrix.columns ≡ length p.matrix.columns
  pub constant : q.constant ≡ p.constant
