-- Parts that are noted where a problem changes.
use Rattle.std.specs.Prelude.{◌≡◌, ◌⊎◌, List}
use Rattle.std.specs.List.{Contains}
use Rattle.problem_model.specs.declared.part.Part.{Part}
use Rattle.problem_model.specs.Reading.{read_of}
use Rattle.problem_model.specs.Sparse.{Sparse}

-- each part of q that stands otherwise than in p is noted, and what was noted before still is
pub record AreNoted (p q : Sparse) (before after : List Part) : Type 0 where
  pub kept : (a : Part) → Contains before a → Contains after a
  pub changed : (a : Part) → (read_of q a ≡ read_of p a) ⊎ Contains after a
