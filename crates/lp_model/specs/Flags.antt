-- Which rows and columns of a program are live.
use Rattle.std.specs.Prelude.{Bool, List}

pub record Flags : Type 0 where
  pub rows : List Bool
  pub columns : List Bool
