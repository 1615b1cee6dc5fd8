-- What threads find in their shares of the pieces.
use Rattle.std.specs.Prelude.{◌≡◌, ℕ, zero, suc, ◌+◌, ◌*◌, ◌/◌, ◌%◌, ◌<◌, List, [], ◌++◌, length, slice_get, slice_index_or, Some, Result, Ok, IfOk}
use Rattle.std.specs.declared.vec.Vec.{Vec}
use Rattle.problem_model.specs.Sparse.{Sparse}
use Rattle.presolve_model.specs.declared.instance.Instance.{Instance}
use Rattle.presolve_model.specs.Tallies.{Open}
use Rattle.threaded_passes.specs.Pieces.{enabled_in, PieceData}

-- list q of a share is what is enabled in the piece at the first place and q steps
abbrev pub IsShare : {Z : Type 0} → Open → Sparse → List PieceData → ℕ → ℕ → List (Vec Instance Z) → Type 0
IsShare {Z} opens p pieces step first lists = (q : ℕ) (d : PieceData) → first + q * step < length pieces
    → (found : Vec Instance Z) × (slice_get lists q ≡ Some found) × (found.items ≡ enabled_in opens p (slice_index_or pieces (first + q * step) d))

-- the same, where memory did not run out
abbrev pub IsShareOrLost : {Y Z E : Type 0} → Open → Sparse → List PieceData → ℕ → ℕ → Result (Vec (Vec Instance Z) Y) E → Type 0
IsShareOrLost opens p pieces step first lists = IfOk lists (λ found. IsShare opens p pieces step first found.items)

-- this is the list of the piece at a place, if there is a share for each remainder
pub record IsListAt {Y Z E : Type 0} (lists : List (Result (Vec (Vec Instance Z) Y) E)) (place : ℕ) (list : List Instance) : Type 0 where
  pub share : Vec (Vec Instance Z) Y
  pub found : Vec Instance Z
  pub there : slice_get lists (place % length lists) ≡ Some (Ok share)
  pub has : slice_get share.items (place / length lists) ≡ Some found
  pub same : list ≡ found.items

-- the lists of so many places, one behind the other
abbrev pub AreInTurn : {Y Z E : Type 0} → List (Result (Vec (Vec Instance Z) Y) E) → ℕ → List Instance → Type 0
AreInTurn lists zero all = all ≡ []
AreInTurn lists (suc place) all = (before : List Instance) × (list : List Instance) × AreInTurn lists place before × IsListAt lists place list × (all ≡ before ++ list)
