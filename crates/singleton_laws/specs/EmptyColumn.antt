-- K17: a column without entries is fixed where it costs least.
use Rattle.std.specs.Prelude.{ℕ, ⊤, Bool, false, ◌&&◌, List, [], ◌∷◌, Option}
use Rattle.fractions.specs.Number.{Number}
use Rattle.lp_columns.specs.EmptyColumn.{resting_place}
use Rattle.undo_records.specs.declared.undo.Undo.{Undo}
use Rattle.undo_records.specs.declared.undo.Undo.TheVariants as undo
use Rattle.problem_model.specs.declared.edit.Edit.{Edit}
use Rattle.problem_model.specs.declared.edit.Edit.TheVariants.{SetBounds}
use Rattle.problem_model.specs.declared.part.Contents.{Contents}
use Rattle.problem_model.specs.declared.part.Contents.TheVariants.{Column, Bounds}
use Rattle.problem_model.specs.declared.part.Part.{Part}
use Rattle.problem_model.specs.declared.part.Part.TheVariants as part
use Rattle.lp_model.specs.EndTests.{is_apart, is_place}
use Rattle.problem_model.specs.Problems.{bounds_at, cost_at}
use Rattle.problem_model.specs.Sparse.{Sparse}
use Rattle.rule_words.specs.Entries.{has_none}
use Rattle.rule_words.specs.Reading.{found_on, no_more}

-- it reads the column and its bounds
abbrev pub heads : ℕ → List Part
heads j = part.Col j ∷ part.Bounds j ∷ []

-- the column has no entries, its bounds are apart, and there is a number where it costs least, whole if the column is
abbrev pub is_empty_column : Contents → Contents → Bool
is_empty_column (Column ts c) (Bounds l u w) = has_none ts && is_apart l u && is_place (resting_place c l u) w
is_empty_column column bounds = false

abbrev pub holds : List Contents → Bool
holds (a ∷ b ∷ []) = is_empty_column a b
holds other = false

abbrev pub enabled : Sparse → ℕ → Bool
enabled p j = holds (found_on (heads j) no_more p)

-- that number
abbrev pub place_of : Sparse → ℕ → Option Number
place_of p j = resting_place (cost_at p j) (bounds_at p j).lower (bounds_at p j).upper

abbrev pub edits : Sparse → ℕ → List Edit
edits p j = SetBounds j (place_of p j) (place_of p j) ∷ []

abbrev pub record_of : Sparse → ℕ → Undo
record_of p j = undo.EmptyColumn (record { column = j })

-- nothing is computed
abbrev pub Computes : Sparse → ℕ → Type 0
Computes p j = ⊤
