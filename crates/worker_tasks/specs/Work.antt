-- What a worker has done in a round.
use Rattle.std.specs.Prelude.{ℕ, List, map}
use Rattle.presolve_model.specs.declared.instance.Instance.{Instance}
use Rattle.presolve_model.specs.Given.{Proposed}

-- the numbers of the tasks that it finished, and the instances that it found in its tasks
pub record WorkData : Type 0 where
  pub done : List ℕ
  pub found : List Instance

-- the instances of proposals
abbrev pub instances_in : List Proposed → List Instance
instances_in ps = map (λ p. p.instance) ps
