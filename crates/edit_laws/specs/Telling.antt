-- What numbers of changes tell of parts.
use Rattle.std.specs.Prelude.{◌≡◌, ◌≢◌, ℕ, ◌-◌, ◌^◌, ◌<◌, ◌≤◌, ⊤, List, [], ◌∷◌}
use Rattle.problem_model.specs.declared.edit.Edit.{Edit}
use Rattle.problem_model.specs.declared.part.Part.{Part}
use Rattle.problem_model.specs.Allowed.{AreAllowed}
use Rattle.problem_model.specs.Parts.{contents_of, changes_of}
use Rattle.problem_model.specs.Raised.{risen, committed}
use Rattle.problem_model.specs.Sparse.{Sparse}

-- from p to q, the number of a part rises by one where what it holds has changed, and stays where it has not
pub record IsCounted (p q : Sparse) (a : Part) : Type 0 where
  pub same : contents_of q a ≡ contents_of p a → changes_of q a ≡ changes_of p a
  pub other : contents_of q a ≢ contents_of p a → changes_of q a ≡ risen (changes_of p a)

-- a part of q holds what it holds in p where its number of changes is the same, unless that stands at the end of its type
abbrev pub IsTold : Sparse → Sparse → Part → Type 0
IsTold p q a = changes_of p a < 2 ^ 64 - 1 → changes_of q a ≡ changes_of p a → contents_of q a ≡ contents_of p a

-- m is at least n, and within its type where n is
abbrev pub IsUp : ℕ → ℕ → Type 0
IsUp n m = n < 2 ^ 64 → (n ≤ m) × (m < 2 ^ 64)

abbrev pub Rises : Sparse → Sparse → Part → Type 0
Rises p q a = IsUp (changes_of p a) (changes_of q a)

-- ---- commits, one after the other
abbrev pub all_committed : Sparse → List (List Edit) → Sparse
all_committed p [] = p
all_committed p (es ∷ more) = all_committed (committed p es) more

-- each may be made where its turn comes
abbrev pub AllAllowed : Sparse → List (List Edit) → Type 0
AllAllowed p [] = ⊤
AllAllowed p (es ∷ more) = AreAllowed p es × AllAllowed (committed p es) more
