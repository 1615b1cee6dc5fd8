-- When what was read of a problem stands, by numbers of changes alone.
use Rattle.std.specs.Prelude.{◌≡◌, ◌≢◌, ℕ, ◌<◌, List, map, length, take, slice_get, Some}
use Rattle.problem_model.specs.declared.part.Read.{Read}
use Rattle.problem_model.specs.Parts.{changes_of}
use Rattle.problem_model.specs.Sparse.{Sparse}

-- each part that was read has changed as often as it had
abbrev pub NumbersStand : Sparse → List Read → Type 0
NumbersStand p rs = map (λ r. changes_of p r.part) rs ≡ map (λ r. r.changes) rs

-- the first part that has changed more or less often is number k
pub record NumberDiffersAt (p : Sparse) (rs : List Read) (k : ℕ) : Type 0 where
  pub within : k < length rs
  pub before : NumbersStand p (take k rs)
  pub here : (r : Read) → slice_get rs k ≡ Some r → changes_of p r.part ≢ r.changes
