-- Entries that were set, and what stood there before, with which a problem can be restored.
use Rattle.std.specs.Prelude.{◌≡◌, ◌≢◌, ℕ, ◌<◌, ◌≤◌, ⊤, List, [], ◌∷◌, ◌++◌, length, map}
use Rattle.lp_model.specs.declared.terms.Term.{Term}
use Rattle.problem_model.specs.declared.edit.Edit.{Edit}
use Rattle.problem_model.specs.declared.edit.Edit.TheVariants.{DeleteRow, DeleteColumn, SetSides, SetBounds, AddOffset, SetCost, SetEntry}
use Rattle.problem_model.specs.Allowed.{AreAllowed, EntriesFirst, NoEntries}
use Rattle.problem_model.specs.Applied.{applied}
use Rattle.problem_model.specs.Offsets.{OffsetFits}
use Rattle.problem_model.specs.Problems.{IsSparse}
use Rattle.problem_model.specs.Sparse.{Sparse}
use Rattle.entry_lines.specs.declared.entries.Replaced.{Replaced}
use Rattle.entry_lines.specs.Putting.{AreInside, entries_given, IdsAscend}

-- edits that set entries of column j: the numbers of terms, in the rows that these name
abbrev pub run_of : ℕ → List Term → List Edit
run_of j ts = map (λ t. SetEntry t.id j t.value) ts

-- the first of the edits sets no entry of column j in a row behind row i
abbrev pub NoneBehind : ℕ → ℕ → List Edit → Type 0
NoneBehind j i (SetEntry k m a ∷ es) = m ≡ j → k ≤ i
NoneBehind j i [] = ⊤
NoneBehind j i (DeleteRow k ∷ es) = ⊤
NoneBehind j i (DeleteColumn k ∷ es) = ⊤
NoneBehind j i (SetSides k l u ∷ es) = ⊤
NoneBehind j i (SetBounds k l u ∷ es) = ⊤
NoneBehind j i (AddOffset k ∷ es) = ⊤
NoneBehind j i (SetCost k c ∷ es) = ⊤

-- edits begin with entries of column j at the terms' ids, which ascend, and no more edits do so: the others are behind them
pub record IsRun (j : ℕ) (ts : List Term) (es fs : List Edit) : Type 0 where
  pub whole : es ≡ run_of j ts ++ fs
  pub ascends : IdsAscend 0 ts
  pub longest : (t : Term) → IdsAscend 0 (ts ++ t ∷ []) → (gs : List Edit) → fs ≢ SetEntry t.id j t.value ∷ gs

-- the first of the edits sets no entry
abbrev pub HasNoEntry : List Edit → Type 0
HasNoEntry (SetEntry i j a ∷ es) = ⊥
HasNoEntry [] = ⊤
HasNoEntry (DeleteRow i ∷ es) = ⊤
HasNoEntry (DeleteColumn j ∷ es) = ⊤
HasNoEntry (SetSides i l u ∷ es) = ⊤
HasNoEntry (SetBounds j l u ∷ es) = ⊤
HasNoEntry (AddOffset k ∷ es) = ⊤
HasNoEntry (SetCost j c ∷ es) = ⊤

-- what stood before is given back, the last one first
abbrev pub restored : List Replaced → Sparse → Sparse
restored [] q = q
restored (r ∷ rs) q = entries_given (restored rs q) r

-- and each time that is a problem
pub record CanGive (q : Sparse) (r : Replaced) : Type 0 where
  pub rows : AreInside r.in_rows.items q.matrix.rows
  pub column : r.in_column.line < length q.matrix.columns
  pub sound : IsSparse (entries_given q r)

abbrev pub CanRestore : List Replaced → Sparse → Type 0
CanRestore [] q = ⊤
CanRestore (r ∷ rs) q = CanGive (restored rs q) r × CanRestore rs q

-- p comes back from q
pub record IsTrail (rs : List Replaced) (p q : Sparse) : Type 0 where
  pub back : restored rs q ≡ p
  pub can : CanRestore rs q

-- edits may be made, and those that set entries come first
pub record MayGoOn (q : Sparse) (fs : List Edit) : Type 0 where
  pub allowed : AreAllowed q fs
  pub fits : OffsetFits q.offset fs
  pub first : EntriesFirst fs

-- the edits fs, made on q, lead where the edits es on p lead, and they may be made, and set no entry
pub record GoesOn (p : Sparse) (es : List Edit) (q : Sparse) (fs : List Edit) : Type 0 where
  pub same : applied q fs ≡ applied p es
  pub allowed : AreAllowed q fs
  pub fits : OffsetFits q.offset fs
  pub plain : NoEntries fs
