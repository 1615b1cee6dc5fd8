-- Parts that have changed since their numbers of changes were kept.
use Rattle.std.specs.Prelude.{◌≡◌, ◌⊎◌, ℕ, ◌<◌, List, length}
use Rattle.std.specs.List.{Contains}
use Rattle.problem_model.specs.declared.line.Line.{Line}
use Rattle.problem_model.specs.declared.part.Part.{Part}
use Rattle.problem_model.specs.Parts.{changes_of}
use Rattle.problem_model.specs.Sparse.{Sparse}
use Rattle.round_marks.specs.Stamping.{stamp_at, Stamped}

-- two numbers for each row and column of a problem
pub record IsAsLong (s : Stamped) (q : Sparse) : Type 0 where
  pub rows : length s.rows ≡ length q.matrix.rows
  pub sides : length s.sides ≡ length q.matrix.rows
  pub columns : length s.columns ≡ length q.matrix.columns
  pub bounds : length s.bounds ≡ length q.matrix.columns

-- the part has changed as often as it had then, or is among these
abbrev pub IsNoticed : Stamped → Sparse → List Part → Part → Type 0
IsNoticed s q parts a = (changes_of q a ≡ stamp_at s a) ⊎ Contains parts a

-- so it is with this part then, and what was among them still is
pub record Notices (s : Stamped) (q : Sparse) (a : Part) (before after : List Part) : Type 0 where
  pub kept : (x : Part) → Contains before x → Contains after x
  pub noticed : IsNoticed s q after a

-- with two parts of each of some lines
pub record NoticesBelow (s : Stamped) (q : Sparse) (f g : ℕ → Part) (lines : List Line) (before after : List Part) : Type 0 where
  pub kept : (x : Part) → Contains before x → Contains after x
  pub first : (k : ℕ) → k < length lines → IsNoticed s q after (f k)
  pub second : (k : ℕ) → k < length lines → IsNoticed s q after (g k)

-- with each part
abbrev pub NoticesAll : Stamped → Sparse → List Part → Type 0
NoticesAll s q parts = (a : Part) → IsNoticed s q parts a
