-- Proposals as data.
use Rattle.std.specs.Prelude.{ℕ, List}
use Rattle.problem_model.specs.declared.part.Read.{Read}
use Rattle.presolve_model.specs.declared.instance.Instance.{Instance}

-- an instance, what it read, and the version of the problem that it was found on
pub record Proposed : Type 0 where
  pub instance : Instance
  pub reading : List Read
  pub version : ℕ
