-- K4: the bounds of a whole column are rounded inwards.
use Rattle.std.specs.Prelude.{ℕ, ⊤, Bool, false, ◌&&◌, ◌||◌, List, [], ◌∷◌}
use Rattle.lp_columns.specs.RoundedBounds.{rounded_up, rounded_down}
use Rattle.undo_records.specs.declared.undo.Undo.{Undo}
use Rattle.undo_records.specs.declared.undo.Undo.TheVariants as undo
use Rattle.problem_model.specs.declared.edit.Edit.{Edit}
use Rattle.problem_model.specs.declared.edit.Edit.TheVariants.{SetBounds}
use Rattle.problem_model.specs.declared.part.Contents.{Contents}
use Rattle.problem_model.specs.declared.part.Contents.TheVariants.{Bounds}
use Rattle.problem_model.specs.declared.part.Part.{Part}
use Rattle.problem_model.specs.declared.part.Part.TheVariants as part
use Rattle.lp_model.specs.EndTests.{is_in_order, is_broken}
use Rattle.problem_model.specs.Problems.{bounds_at}
use Rattle.problem_model.specs.Sparse.{Sparse}
use Rattle.rule_words.specs.Reading.{found_on, no_more}

-- it reads the bounds alone
abbrev pub heads : ℕ → List Part
heads j = part.Bounds j ∷ []

-- the column is whole, a finite bound of it isn't, and the bounds aren't crossed
abbrev pub is_to_be_rounded : Contents → Bool
is_to_be_rounded (Bounds l u w) = w && is_in_order l u && (is_broken l || is_broken u)
is_to_be_rounded bounds = false

abbrev pub holds : List Contents → Bool
holds (a ∷ []) = is_to_be_rounded a
holds other = false

abbrev pub enabled : Sparse → ℕ → Bool
enabled p j = holds (found_on (heads j) no_more p)

abbrev pub edits : Sparse → ℕ → List Edit
edits p j = SetBounds j (rounded_up (bounds_at p j).lower) (rounded_down (bounds_at p j).upper) ∷ []

abbrev pub record_of : Sparse → ℕ → Undo
record_of p j = undo.RoundedBounds (record { column = j })

-- a number rounded has room
abbrev pub Computes : Sparse → ℕ → Type 0
Computes p j = ⊤
