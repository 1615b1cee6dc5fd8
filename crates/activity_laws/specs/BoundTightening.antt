-- K8: a bound of a column becomes the one that a row implies with the bounds of its other columns, where that is a better one.
use Rattle.std.specs.Prelude.{◌≡◌, ℕ, ⊤, Bool, false, not, ◌&&◌, nat_eq, if◌then◌else◌, List, [], ◌∷◌, Option, Some, None, Result, Ok, Err}
use Rattle.std.specs.List.{flat_map}
use Rattle.fractions.specs.Number.{Number, zero_ℚ}
use Rattle.fractions.specs.Order.{◌<ℚ◌}
use Rattle.fractions.specs.Compare.{lt_ℚ}
use Rattle.fractions.specs.declared.Past.{Past}
use Rattle.lp_model.specs.EndTests.{is_apart}
use Rattle.lp_model.specs.Sparse.{dense}
use Rattle.lp_model.specs.declared.terms.Term.{Term}
use Rattle.undo_records.specs.declared.side.Side.{Side}
use Rattle.undo_records.specs.declared.side.Side.TheVariants.{Lower, Upper}
use Rattle.undo_records.specs.declared.undo.Undo.{Undo}
use Rattle.undo_records.specs.declared.undo.Undo.TheVariants as undo
use Rattle.problem_model.specs.declared.edit.Edit.{Edit}
use Rattle.problem_model.specs.declared.edit.Edit.TheVariants.{SetBounds}
use Rattle.problem_model.specs.declared.line.Bounds.{Bounds}
use Rattle.problem_model.specs.declared.part.Contents.{Contents}
use Rattle.problem_model.specs.Problems.{bounds_at, row_entries, sides_at}
use Rattle.problem_model.specs.Sparse.{Sparse}
use Rattle.row_spans.specs.declared.span.Extreme.TheVariants.{Least, Greatest}
use Rattle.row_spans.specs.declared.span.Span.{Span}
use Rattle.row_spans.specs.Exact.{exact_difference, exact_quotient}
use Rattle.row_spans.specs.RowSums.{rest}
use Rattle.row_spans.specs.Spans.{spans_of}
use Rattle.activity_laws.specs.Rows.{RowTest, has_some, on_row, row_found}

-- the row has two entries or more
abbrev pub has_two : List Span → Bool
has_two [] = false
has_two (s ∷ ss) = has_some ss

-- the entry of column j, if the row has one
abbrev pub entry_at : ℕ → List Span → Option Span
entry_at j [] = None
entry_at j (s ∷ ss) = if nat_eq s.id j then Some s else entry_at j ss

-- a number, if it has room
abbrev pub if_made : Result Number Past → Option Number
if_made (Ok q) = Some q
if_made (Err e) = None

-- a difference over the entry a
abbrev pub over_entry : Number → Result Number Past → Option Number
over_entry a (Ok d) = if_made (exact_quotient d a)
over_entry a (Err e) = None

-- what a rest leaves of a side, over the entry a; none where one of the two is infinite, or where a number has no room
abbrev pub left_over : Number → Option Number → Result (Option Number) Past → Option Number
left_over a (Some b) (Ok (Some r)) = over_entry a (exact_difference b r)
left_over a b r = None

-- from the lower side and the greatest rest, and from the upper side and the least rest
abbrev pub by_lower_side : ℕ → Number → Option Number → List Span → Option Number
by_lower_side j a l ss = left_over a l (rest Greatest j ss)

abbrev pub by_upper_side : ℕ → Number → Option Number → List Span → Option Number
by_upper_side j a u ss = left_over a u (rest Least j ss)

-- the bound of column j that the row implies: for an entry a above 0 the lower side gives the lower bound, for one below 0 the upper one
abbrev pub implied : Side → ℕ → Number → Option Number → Option Number → List Span → Option Number
implied Lower j a l u ss = if lt_ℚ zero_ℚ a then by_lower_side j a l ss else by_upper_side j a u ss
implied Upper j a l u ss = if lt_ℚ zero_ℚ a then by_upper_side j a u ss else by_lower_side j a l ss

-- it is finite, and strictly better than the old bound
abbrev pub is_better : Side → Option Number → Option Number → Bool
is_better side old None = false
is_better Lower old (Some b) = is_apart old (Some b)
is_better Upper old (Some b) = is_apart (Some b) old

abbrev pub old_bound : Side → Option Number → Option Number → Option Number
old_bound Lower l u = l
old_bound Upper l u = u

abbrev pub is_tightened_at : Side → ℕ → Option Number → Option Number → List Span → Option Span → Bool
is_tightened_at side j l u ss None = false
is_tightened_at side j l u ss (Some s) = not s.semi && is_better side (old_bound side s.lower s.upper) (implied side j s.value l u ss)

-- the row has two entries or more, one of them in column j, for which it implies a better bound
abbrev pub is_bound_tightening : ℕ → Side → RowTest
is_bound_tightening j side l u ss = has_two ss && is_tightened_at side j l u ss (entry_at j ss)

abbrev pub holds : ℕ → Side → List Contents → Bool
holds j side cs = on_row (is_bound_tightening j side) cs

abbrev pub enabled : Sparse → ℕ → ℕ → Side → Bool
enabled p i j side = holds j side (row_found p i)

-- both bounds of each column of a row, in the order of its entries, the lower one first
abbrev pub bounds_of : List Term → List (ℕ × Side)
bounds_of ts = flat_map (λ t. (t.id, Lower) ∷ (t.id, Upper) ∷ []) ts

-- the new bound
abbrev pub new_bound : Sparse → ℕ → ℕ → Side → Option Number
new_bound p i j side = implied side j (dense (row_entries p i) j) (sides_at p i).lower (sides_at p i).upper (spans_of p i)

abbrev pub bound_set : Side → ℕ → Bounds → Option Number → Edit
bound_set Lower j old b = SetBounds j b old.upper
bound_set Upper j old b = SetBounds j old.lower b

abbrev pub edits : Sparse → ℕ → ℕ → Side → List Edit
edits p i j side = bound_set side j (bounds_at p j) (new_bound p i j side) ∷ []

-- the record keeps the old bound, and the row's entries
abbrev pub record_of : Sparse → ℕ → ℕ → Side → Undo
record_of p i j side = undo.BoundTightening (record { row = i; column = j; side = side; bound = old_bound side (bounds_at p j).lower (bounds_at p j).upper; entries = row_entries p i })

-- what is owed beside: b is strictly better than the old bound
abbrev pub IsBetter : Side → Option Number → Number → Type 0
IsBetter side None b = ⊤
IsBetter Lower (Some old) b = old <ℚ b
IsBetter Upper (Some old) b = b <ℚ old

-- the new bound is finite, and strictly better than the one that the record keeps
abbrev pub Improves : Sparse → ℕ → ℕ → Side → Type 0
Improves p i j side = (b : Number) × (new_bound p i j side ≡ Some b) × IsBetter side (old_bound side (bounds_at p j).lower (bounds_at p j).upper) b

-- nothing more is computed for the change
abbrev pub Computes : Sparse → ℕ → ℕ → Side → Type 0
Computes p i j side = ⊤
