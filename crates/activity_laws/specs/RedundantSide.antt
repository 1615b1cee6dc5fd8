-- K6: of two finite sides of a row the one that its columns' bounds keep becomes infinite, where they keep one alone.
use Rattle.std.specs.Prelude.{ℕ, ⊤, Bool, true, false, not, ◌&&◌, List, [], ◌∷◌, Option, None, is_none}
use Rattle.fractions.specs.Number.{Number}
use Rattle.undo_records.specs.declared.undo.Undo.{Undo}
use Rattle.undo_records.specs.declared.undo.Undo.TheVariants as undo
use Rattle.problem_model.specs.declared.edit.Edit.{Edit}
use Rattle.problem_model.specs.declared.edit.Edit.TheVariants.{SetSides}
use Rattle.problem_model.specs.declared.part.Contents.{Contents}
use Rattle.problem_model.specs.Problems.{sides_at}
use Rattle.problem_model.specs.Sparse.{Sparse}
use Rattle.row_spans.specs.declared.span.Span.{Span}
use Rattle.row_spans.specs.Spans.{spans_of}
use Rattle.activity_laws.specs.Rows.{RowTest, has_some, keeps_lower, keeps_upper, on_activities, on_row, row_found}

-- one of two holds, and the other doesn't
abbrev pub differ : Bool → Bool → Bool
differ true b = not b
differ false b = b

-- the row has an entry and two finite sides, and just one of them is kept
abbrev pub has_redundant_side : RowTest
has_redundant_side l u ss = has_some ss && (not (is_none l) && (not (is_none u) && on_activities (λ least greatest. differ (keeps_lower l least) (keeps_upper u greatest)) ss))

abbrev pub holds : List Contents → Bool
holds cs = on_row has_redundant_side cs

abbrev pub enabled : Sparse → ℕ → Bool
enabled p i = holds (row_found p i)

-- it is the lower one
abbrev pub lower_is_kept : Option Number → List Span → Bool
lower_is_kept l ss = on_activities (λ least greatest. keeps_lower l least) ss

-- the lower side goes where it is kept, else the upper one
abbrev pub side_dropped : Bool → ℕ → Option Number → Option Number → Edit
side_dropped true i l u = SetSides i None u
side_dropped false i l u = SetSides i l None

abbrev pub edits : Sparse → ℕ → List Edit
edits p i = side_dropped (lower_is_kept (sides_at p i).lower (spans_of p i)) i (sides_at p i).lower (sides_at p i).upper ∷ []

abbrev pub record_of : Sparse → ℕ → Undo
record_of p i = undo.RedundantSide (record { row = i })

-- nothing is computed for the change
abbrev pub Computes : Sparse → ℕ → Type 0
Computes p i = ⊤
