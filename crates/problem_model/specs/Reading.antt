-- Parts as they stand, and when what was read of a problem stands as it was read.
use Rattle.std.specs.Prelude.{◌≡◌, ◌≢◌, ℕ, ◌<◌, List, map, length, take, slice_get, Some}
use Rattle.problem_model.specs.declared.part.Part.{Part}
use Rattle.problem_model.specs.declared.part.Read.{Read}
use Rattle.problem_model.specs.Parts.{contents_of, changes_of}
use Rattle.problem_model.specs.Sparse.{Sparse}

-- a part as it stands: how often it has changed, and what it holds
abbrev pub read_of : Sparse → Part → Read
read_of p a = record { part = a; changes = changes_of p a; contents = contents_of p a }

-- each part that was read stands as it was read
abbrev pub Agrees : Sparse → List Read → Type 0
Agrees p rs = map (λ r. read_of p r.part) rs ≡ rs

-- the first part that stands otherwise is number k
pub record DiffersAt (p : Sparse) (rs : List Read) (k : ℕ) : Type 0 where
  pub within : k < length rs
  pub before : Agrees p (take k rs)
  pub here : (r : Read) → slice_get rs k ≡ Some r → read_of p r.part ≢ r
