-- K2: a row with one entry becomes bounds of that entry's column.
use Rattle.std.specs.Prelude.{ℕ, Bool, false, ◌&&◌, List, [], ◌∷◌, Option}
use Rattle.fractions.specs.Number.{Number}
use Rattle.fractions.specs.Ends.{meet_low, meet_high}
use Rattle.fractions.specs.EndWords.{OverFits}
use Rattle.lp_model.specs.declared.terms.Term.{Term}
use Rattle.lp_theory.specs.MetEnds.{lower_over, upper_over}
use Rattle.undo_records.specs.declared.undo.Undo.{Undo}
use Rattle.undo_records.specs.declared.undo.Undo.TheVariants as undo
use Rattle.problem_model.specs.declared.edit.Edit.{Edit}
use Rattle.problem_model.specs.declared.edit.Edit.TheVariants.{SetBounds, DeleteRow}
use Rattle.problem_model.specs.declared.part.Contents.{Contents}
use Rattle.problem_model.specs.declared.part.Contents.TheVariants.{Entries, Sides, Bounds}
use Rattle.problem_model.specs.declared.part.Part.{Part}
use Rattle.problem_model.specs.declared.part.Part.TheVariants as part
use Rattle.lp_model.specs.EndTests.{is_in_order}
use Rattle.problem_model.specs.Problems.{first_of, sides_at, bounds_at, row_entries}
use Rattle.problem_model.specs.Sparse.{Sparse}
use Rattle.rule_words.specs.Entries.{has_one}
use Rattle.rule_words.specs.Reading.{found_on, bounds_named}

-- it reads the row and its sides, and then the bounds of the entry's column
abbrev pub heads : ℕ → List Part
heads i = part.Row i ∷ part.Sides i ∷ []

-- bounds that aren't crossed, of one column that isn't semi-continuous
abbrev pub are_open : List Contents → Bool
are_open (Bounds m v w ∷ []) = is_in_order m v
are_open other = false

-- the row has one entry, and neither its sides nor its column's bounds are crossed
abbrev pub is_singleton_row : Contents → Contents → List Contents → Bool
is_singleton_row (Entries ts) (Sides l u) bounds = has_one ts && (is_in_order l u && are_open bounds)
is_singleton_row row sides bounds = false

abbrev pub holds : List Contents → Bool
holds (a ∷ b ∷ bounds) = is_singleton_row a b bounds
holds other = false

abbrev pub enabled : Sparse → ℕ → Bool
enabled p i = holds (found_on (heads i) bounds_named p)

-- the entry
abbrev pub sole_entry : Sparse → ℕ → Term
sole_entry p i = first_of (row_entries p i)

-- the bounds of the entry's column, met with the row's sides over the entry; below 0 the sides change over
abbrev pub met_lower : Sparse → ℕ → Term → Option Number
met_lower p i t = meet_low (bounds_at p t.id).lower (lower_over t.value (sides_at p i).lower (sides_at p i).upper)

abbrev pub met_upper : Sparse → ℕ → Term → Option Number
met_upper p i t = meet_high (bounds_at p t.id).upper (upper_over t.value (sides_at p i).lower (sides_at p i).upper)

-- the column gets them, and the row goes
abbrev pub edits_by : Sparse → ℕ → Term → List Edit
edits_by p i t = SetBounds t.id (met_lower p i t) (met_upper p i t) ∷ DeleteRow i ∷ []

abbrev pub edits : Sparse → ℕ → List Edit
edits p i = edits_by p i (sole_entry p i)

-- the record keeps the bounds that the column had
abbrev pub record_by : Sparse → ℕ → Term → Undo
record_by p i t = undo.SingletonRow (record { row = i; column = t.id; value = t.value; lower = (bounds_at p t.id).lower; upper = (bounds_at p t.id).upper })

abbrev pub record_of : Sparse → ℕ → Undo
record_of p i = record_by p i (sole_entry p i)

-- the quotients are computed
abbrev pub Computes : Sparse → ℕ → Type 0
Computes p i = OverFits (sides_at p i).lower (sole_entry p i).value × OverFits (sides_at p i).upper (sole_entry p i).value
