-- What is live after edits.
use Rattle.std.specs.Prelude.{false, List, [], ◌∷◌, slice_set}
use Rattle.lp_model.specs.Flags.{Flags}
use Rattle.problem_model.specs.declared.edit.Edit.{Edit}
use Rattle.problem_model.specs.declared.edit.Edit.TheVariants.{DeleteRow, DeleteColumn, SetSides, SetBounds, AddOffset, SetCost, SetEntry}

abbrev pub flags_edited : Flags → Edit → Flags
flags_edited f (DeleteRow i) = record f { rows = slice_set f.rows i false }
flags_edited f (DeleteColumn j) = record f { columns = slice_set f.columns j false }
flags_edited f (SetSides i l u) = f
flags_edited f (SetBounds j l u) = f
flags_edited f (AddOffset k) = f
flags_edited f (SetCost j c) = f
flags_edited f (SetEntry i j a) = f

abbrev pub all_flags_edited : Flags → List Edit → Flags
all_flags_edited f [] = f
all_flags_edited f (e ∷ es) = all_flags_edited (flags_edited f e) es
