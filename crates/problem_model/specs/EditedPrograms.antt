-- What edits make of the linear program that a problem shows.
use Rattle.std.specs.Prelude.{List, [], ◌∷◌}
use Rattle.lp_model.specs.LinearProgram.{LinearProgram}
use Rattle.lp_model.specs.Edits.{without_row, with_bounds, with_sides, with_coefficient, with_cost}
use Rattle.problem_model.specs.LeftOut.{column_left_out}
use Rattle.problem_model.specs.declared.edit.Edit.{Edit}
use Rattle.problem_model.specs.declared.edit.Edit.TheVariants.{DeleteRow, DeleteColumn, SetSides, SetBounds, AddOffset, SetCost, SetEntry}

abbrev pub edited_program : LinearProgram → Edit → LinearProgram
edited_program M (DeleteRow i) = without_row M i
edited_program M (DeleteColumn j) = column_left_out M j
edited_program M (SetSides i l u) = with_sides M i l u
edited_program M (SetBounds j l u) = with_bounds M j l u
edited_program M (AddOffset k) = M
edited_program M (SetCost j c) = with_cost M j c
edited_program M (SetEntry i j a) = with_coefficient M i j a

abbrev pub programs_edited : LinearProgram → List Edit → LinearProgram
programs_edited M [] = M
programs_edited M (e ∷ es) = programs_edited (edited_program M e) es
