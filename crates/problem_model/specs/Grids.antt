-- A matrix as data: its rows and its columns.
use Rattle.std.specs.Prelude.{List}
use Rattle.problem_model.specs.declared.line.Line.{Line}

pub record Grid : Type 0 where
  pub rows : List Line
  pub columns : List Line
