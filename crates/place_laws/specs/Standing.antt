-- What stands on a later problem as it stood on an earlier one.
use Rattle.std.specs.Prelude.{◌≡◌, ◌⊎◌, ◌<◌, ℕ}
use Rattle.undo_records.specs.declared.side.Side.{Side}
use Rattle.problem_model.specs.declared.part.Part.{Part}
use Rattle.problem_model.specs.declared.part.Part.TheVariants as part
use Rattle.problem_model.specs.Parts.{changes_of}
use Rattle.problem_model.specs.Reading.{Agrees, read_of}
use Rattle.problem_model.specs.Sparse.{Sparse}
use Rattle.presolve_model.specs.declared.instance.Instance.{Instance}
use Rattle.presolve_model.specs.Enabled.{reading_of}
use Rattle.presolve_model.specs.Tallies.{Open}

-- the parts that an instance reads stand on p as they stood on f
abbrev pub IsFresh : Sparse → Sparse → Instance → Type 0
IsFresh f p e = Agrees p (reading_of f e)

-- a part of p stands as it stood on f, or has changed more often
abbrev pub IsLaterAt : Sparse → Sparse → Part → Type 0
IsLaterAt f p a = (read_of p a ≡ read_of f a) ⊎ (changes_of f a < changes_of p a)

-- the same bounds may be tightened, but for those that have changed more often
abbrev pub Moves : Sparse → Sparse → Open → Open → Type 0
Moves f p opens now = (j : ℕ) (side : Side) → (now j side ≡ opens j side) ⊎ (changes_of f (part.Bounds j) < changes_of p (part.Bounds j))
