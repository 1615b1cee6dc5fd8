-- What edits add to the cost, and when its sums have room.
use Rattle.std.specs.Prelude.{⊤, List, [], ◌∷◌}
use Rattle.fractions.specs.Number.{Number, zero_ℚ, ◌+ℚ◌}
use Rattle.lp_model.specs.FracWords.{SumFits}
use Rattle.problem_model.specs.declared.edit.Edit.{Edit}
use Rattle.problem_model.specs.declared.edit.Edit.TheVariants.{DeleteRow, DeleteColumn, SetSides, SetBounds, AddOffset, SetCost, SetEntry}

abbrev pub amount_of : Edit → Number
amount_of (AddOffset k) = k
amount_of (DeleteRow i) = zero_ℚ
amount_of (DeleteColumn j) = zero_ℚ
amount_of (SetSides i l u) = zero_ℚ
amount_of (SetBounds j l u) = zero_ℚ
amount_of (SetCost j c) = zero_ℚ
amount_of (SetEntry i j a) = zero_ℚ

abbrev pub added_by : List Edit → Number
added_by [] = zero_ℚ
added_by (e ∷ es) = amount_of e +ℚ added_by es

-- the sums that are made, one after the other, from an offset on
abbrev pub OffsetFits : Number → List Edit → Type 0
OffsetFits o [] = ⊤
OffsetFits o (AddOffset k ∷ es) = SumFits o k × OffsetFits (o +ℚ k) es
OffsetFits o (DeleteRow i ∷ es) = OffsetFits o es
OffsetFits o (DeleteColumn j ∷ es) = OffsetFits o es
OffsetFits o (SetSides i l u ∷ es) = OffsetFits o es
OffsetFits o (SetBounds j l u ∷ es) = OffsetFits o es
OffsetFits o (SetCost j c ∷ es) = OffsetFits o es
OffsetFits o (SetEntry i j a ∷ es) = OffsetFits o es
