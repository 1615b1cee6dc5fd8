-- The numbers that are new with edits: when they have room, and when they can be written.
use Rattle.std.specs.Prelude.{⊤, List, All}
use Rattle.lp_model.specs.Numbers.{Numbers}
use Rattle.lp_model.specs.Ends.{WidthFits, WidthIsWritten, IsWritten, AreNear, IsSided}
use Rattle.lp_model.specs.Writable.{WritableNumber}
use Rattle.problem_model.specs.Sparse.{Sparse}
use Rattle.problem_model.specs.Offsets.{OffsetFits}
use Rattle.problem_model.specs.declared.edit.Edit.{Edit}
use Rattle.problem_model.specs.declared.edit.Edit.TheVariants.{DeleteRow, DeleteColumn, SetSides, SetBounds, AddOffset, SetCost, SetEntry}

-- a finite bound is below 10^20 in magnitude, and the width of finite sides has room
abbrev pub EditFits : Edit → Type 0
EditFits (SetSides i l u) = WidthFits l u
EditFits (SetBounds j l u) = AreNear l u
EditFits (DeleteRow i) = ⊤
EditFits (DeleteColumn j) = ⊤
EditFits (AddOffset k) = ⊤
EditFits (SetCost j c) = ⊤
EditFits (SetEntry i j a) = ⊤

-- sides, widths, bounds, costs and entries can be written; an offset may be any number
abbrev pub EditIsWritten : Numbers → Edit → Type 0
EditIsWritten numbers (SetSides i l u) = IsWritten numbers l u × WidthIsWritten numbers l u
EditIsWritten numbers (SetBounds j l u) = IsWritten numbers l u
EditIsWritten numbers (SetCost j c) = WritableNumber numbers c
EditIsWritten numbers (SetEntry i j a) = WritableNumber numbers a
EditIsWritten numbers (DeleteRow i) = ⊤
EditIsWritten numbers (DeleteColumn j) = ⊤
EditIsWritten numbers (AddOffset k) = ⊤

-- of a list: this, and the sums of the offset
pub record EditsFit (p : Sparse) (es : List Edit) : Type 0 where
  pub each : All EditFits es
  pub offset : OffsetFits p.offset es

abbrev pub EditsAreWritten : Numbers → List Edit → Type 0
EditsAreWritten numbers es = All (EditIsWritten numbers) es

-- a side stays finite
abbrev pub EditIsSided : Edit → Type 0
EditIsSided (SetSides i l u) = IsSided l u
EditIsSided (DeleteRow i) = ⊤
EditIsSided (DeleteColumn j) = ⊤
EditIsSided (SetBounds j l u) = ⊤
EditIsSided (AddOffset k) = ⊤
EditIsSided (SetCost j c) = ⊤
EditIsSided (SetEntry i j a) = ⊤
