-- What edits make of a problem: what its parts hold, the offset, and no number of changes.
use Rattle.std.specs.Prelude.{List, [], ◌∷◌}
use Rattle.fractions.specs.Number.{◌+ℚ◌}
use Rattle.problem_model.specs.Edits.{row_deleted, column_deleted, sides_set, bounds_set, offset_set, cost_set, entry_set}
use Rattle.problem_model.specs.Sparse.{Sparse}
use Rattle.problem_model.specs.declared.edit.Edit.{Edit}
use Rattle.problem_model.specs.declared.edit.Edit.TheVariants.{DeleteRow, DeleteColumn, SetSides, SetBounds, AddOffset, SetCost, SetEntry}

abbrev pub edited : Sparse → Edit → Sparse
edited p (DeleteRow i) = row_deleted p i
edited p (DeleteColumn j) = column_deleted p j
edited p (SetSides i l u) = sides_set p i l u
edited p (SetBounds j l u) = bounds_set p j l u
edited p (AddOffset k) = offset_set p (p.offset +ℚ k)
edited p (SetCost j c) = cost_set p j c
edited p (SetEntry i j a) = entry_set p i j a

-- one after the other
abbrev pub applied : Sparse → List Edit → Sparse
applied p [] = p
applied p (e ∷ es) = applied (edited p e) es
