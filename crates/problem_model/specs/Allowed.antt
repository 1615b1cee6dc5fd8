-- When edits may be made.
use Rattle.std.specs.Prelude.{◌≡◌, true, false, ⊤, List, [], ◌∷◌}
use Rattle.problem_model.specs.Problems.{row_at, column_at, bounds_at}
use Rattle.problem_model.specs.Sparse.{Sparse}
use Rattle.problem_model.specs.declared.edit.Edit.{Edit}
use Rattle.problem_model.specs.declared.edit.Edit.TheVariants.{DeleteRow, DeleteColumn, SetSides, SetBounds, AddOffset, SetCost, SetEntry}
use Rattle.problem_model.specs.Applied.{edited}

-- what it changes is live; a semi-continuous column keeps its bounds
abbrev pub IsAllowed : Sparse → Edit → Type 0
IsAllowed p (DeleteRow i) = (row_at p i).live ≡ true
IsAllowed p (DeleteColumn j) = (column_at p j).live ≡ true
IsAllowed p (SetSides i l u) = (row_at p i).live ≡ true
IsAllowed p (SetBounds j l u) = ((column_at p j).live ≡ true) × ((bounds_at p j).semi ≡ false)
IsAllowed p (AddOffset k) = ⊤
IsAllowed p (SetCost j c) = (column_at p j).live ≡ true
IsAllowed p (SetEntry i j a) = ((row_at p i).live ≡ true) × ((column_at p j).live ≡ true)

-- each where its turn comes
abbrev pub AreAllowed : Sparse → List Edit → Type 0
AreAllowed p [] = ⊤
AreAllowed p (e ∷ es) = IsAllowed p e × AreAllowed (edited p e) es

-- no edit sets an entry
abbrev pub NoEntries : List Edit → Type 0
NoEntries [] = ⊤
NoEntries (DeleteRow i ∷ es) = NoEntries es
NoEntries (DeleteColumn j ∷ es) = NoEntries es
NoEntries (SetSides i l u ∷ es) = NoEntries es
NoEntries (SetBounds j l u ∷ es) = NoEntries es
NoEntries (AddOffset k ∷ es) = NoEntries es
NoEntries (SetCost j c ∷ es) = NoEntries es
NoEntries (SetEntry i j a ∷ es) = ⊥

-- the edits that set entries, which need memory, come before all others
abbrev pub EntriesFirst : List Edit → Type 0
EntriesFirst [] = ⊤
EntriesFirst (SetEntry i j a ∷ es) = EntriesFirst es
EntriesFirst (DeleteRow i ∷ es) = NoEntries es
EntriesFirst (DeleteColumn j ∷ es) = NoEntries es
EntriesFirst (SetSides i l u ∷ es) = NoEntries es
EntriesFirst (SetBounds j l u ∷ es) = NoEntries es
EntriesFirst (AddOffset k ∷ es) = NoEntries es
EntriesFirst (SetCost j c ∷ es) = NoEntries es
