-- K7: a row that only just reaches one of its sides, and that only where each of its columns is at one end, is deleted, and the columns
-- are fixed there.
use Rattle.std.specs.Prelude.{ℕ, ⊤, Bool, true, false, not, ◌&&◌, ◌||◌, if◌then◌else◌, List, [], ◌∷◌, ◌++◌, map, Option, Some, None}
use Rattle.fractions.specs.Number.{Number, zero_ℚ}
use Rattle.fractions.specs.Compare.{lt_ℚ}
use Rattle.fractions.specs.Ends.{same_end}
use Rattle.undo_records.specs.declared.side.Side.{Side}
use Rattle.undo_records.specs.declared.side.Side.TheVariants.{Lower, Upper}
use Rattle.undo_records.specs.declared.undo.Undo.{Undo}
use Rattle.undo_records.specs.declared.undo.Undo.TheVariants as undo
use Rattle.problem_model.specs.declared.edit.Edit.{Edit}
use Rattle.problem_model.specs.declared.edit.Edit.TheVariants.{DeleteRow, SetBounds}
use Rattle.problem_model.specs.declared.part.Contents.{Contents}
use Rattle.problem_model.specs.Problems.{row_entries, sides_at}
use Rattle.problem_model.specs.Sparse.{Sparse}
use Rattle.row_spans.specs.declared.span.Extreme.{Extreme}
use Rattle.row_spans.specs.declared.span.Extreme.TheVariants.{Least, Greatest}
use Rattle.row_spans.specs.declared.span.Span.{Span}
use Rattle.row_spans.specs.Spans.{spans_of}
use Rattle.activity_laws.specs.Rows.{RowTest, has_some, on_activities, on_row, row_found}

-- a side is finite, and it is the activity
abbrev pub is_reached : Option Number → Option Number → Bool
is_reached None e = false
is_reached (Some b) e = same_end (Some b) e

-- no column of the row is semi-continuous
abbrev pub all_solid : List Span → Bool
all_solid [] = true
all_solid (s ∷ ss) = not s.semi && all_solid ss

-- the row has an entry, none of them in a semi-continuous column, and the greatest activity is the lower side, or the least the upper side
abbrev pub is_forcing_row : RowTest
is_forcing_row l u ss = has_some ss && (all_solid ss && on_activities (λ least greatest. is_reached l greatest || is_reached u least) ss)

abbrev pub holds : List Contents → Bool
holds cs = on_row is_forcing_row cs

abbrev pub enabled : Sparse → ℕ → Bool
enabled p i = holds (row_found p i)

-- it is the lower side, which is looked at first
abbrev pub reaches_lower : Option Number → List Span → Bool
reaches_lower l ss = on_activities (λ least greatest. is_reached l greatest) ss

abbrev pub at_lower : Sparse → ℕ → Bool
at_lower p i = reaches_lower (sides_at p i).lower (spans_of p i)

-- the end at which a column gives the row the least, or the most
abbrev pub end_of : Extreme → Span → Option Number
end_of Least s = if lt_ℚ zero_ℚ s.value then s.lower else s.upper
end_of Greatest s = if lt_ℚ zero_ℚ s.value then s.upper else s.lower

abbrev pub fixed_at_end : Extreme → Span → Edit
fixed_at_end extreme s = SetBounds s.id (end_of extreme s) (end_of extreme s)

-- the columns, in the row's order, and then the row
abbrev pub edits_by : Extreme → Sparse → ℕ → List Edit
edits_by extreme p i = map (fixed_at_end extreme) (spans_of p i) ++ DeleteRow i ∷ []

abbrev pub edits : Sparse → ℕ → List Edit
edits p i = edits_by (if at_lower p i then Greatest else Least) p i

-- the record keeps the side, and the row's entries
abbrev pub record_by : Side → Sparse → ℕ → Undo
record_by side p i = undo.ForcingRow (record { row = i; side = side; entries = row_entries p i })

abbrev pub record_of : Sparse → ℕ → Undo
record_of p i = record_by (if at_lower p i then Lower else Upper) p i

-- nothing is computed for the change
abbrev pub Computes : Sparse → ℕ → Type 0
Computes p i = ⊤
