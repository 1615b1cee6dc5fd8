-- The bounds that a row implies, by its entries with the bounds of their columns.
use Rattle.std.specs.Prelude.{◌≡◌, ℕ, Bool, true, false, not, ◌&&◌, ◌||◌, Option, Some, None, List, [], ◌∷◌, ◌++◌, drop, if◌then◌else◌}
use Rattle.std.specs.List.{flat_map}
use Rattle.undo_records.specs.declared.side.Side.{Side}
use Rattle.undo_records.specs.declared.side.Side.TheVariants.{Lower, Upper}
use Rattle.problem_model.specs.declared.line.Sides.{Sides}
use Rattle.problem_model.specs.Problems.{bounds_at}
use Rattle.problem_model.specs.Showing.{reach_high, reach_low}
use Rattle.problem_model.specs.Sparse.{Sparse}
use Rattle.row_spans.specs.declared.span.Span.{Span}
use Rattle.fractions.specs.Number.{Number}
use Rattle.row_spans.specs.declared.span.Extreme.{Extreme}
use Rattle.row_spans.specs.declared.span.Extreme.TheVariants.{Least, Greatest}
use Rattle.kept_sums.specs.KeptSides.{IsQuiet}
use Rattle.kept_sums.specs.declared.kept_sides.QuietSides.{QuietSides}
use Rattle.row_spans.specs.RowSums.{all_finite, rest}
use Rattle.row_spans.specs.Spans.{ends_at, spans_of}
use Rattle.activity_laws.specs.BoundTightening.{has_two, implied, is_better, new_bound, old_bound}
use Rattle.activities.specs.Rows.{is_uncrossed}
use Rattle.activity_rules.specs.declared.tightened_bounds.Cursor.{Cursor}

-- nothing of a row is crossed, and it has two entries or more
abbrev pub is_looked_at : Sparse → ℕ → Bool
is_looked_at p i = is_uncrossed p i && has_two (spans_of p i)

-- column j is not semi-continuous, and its new bound is a better one
abbrev pub gets_better : Sparse → ℕ → ℕ → Side → Bool
gets_better p i j side = not (bounds_at p j).semi && is_better side (old_bound side (reach_low (bounds_at p j)) (reach_high (bounds_at p j))) (new_bound p i j side)

-- a row with these sides and entries implies a better bound for the column of this entry, which is not semi-continuous
abbrev pub is_tight : Sides → List Span → Span → Side → Bool
is_tight b ss s side = not s.semi && is_better side (old_bound side s.lower s.upper) (implied side s.id s.value b.lower b.upper ss)

-- a bound of a column, or none
abbrev pub bound_if : Bool → ℕ → Side → List (ℕ × Side)
bound_if b j side = if b then (j, side) ∷ [] else []

-- of the two bounds of an entry's column, those for which the row implies better ones
abbrev pub found_at : Sides → List Span → Span → List (ℕ × Side)
found_at b ss s = bound_if (is_tight b ss s Lower) s.id Lower ++ bound_if (is_tight b ss s Upper) s.id Upper

-- and those of several entries
abbrev pub found_among : Sides → List Span → List Span → List (ℕ × Side)
found_among b ss ts = flat_map (found_at b ss) ts

-- at most one of these ends is infinite
abbrev pub at_most_one_infinite : List (Option Number) → Bool
at_most_one_infinite [] = true
at_most_one_infinite (None ∷ es) = all_finite es
at_most_one_infinite (Some q ∷ es) = at_most_one_infinite es

-- a side is finite, and a rest that goes with it may be
abbrev pub may_tell : Extreme → Option Number → List Span → Bool
may_tell extreme None ss = false
may_tell extreme (Some b) ss = at_most_one_infinite (ends_at extreme ss)

-- this holds of the lower side, or of the upper one
abbrev pub may_tighten : Sides → List Span → Bool
may_tighten b ss = may_tell Greatest b.lower ss || may_tell Least b.upper ss

-- a bound of a column with a positive entry follows from the side of its own name, and else from the other one
abbrev pub is_below : Side → Bool → Bool
is_below Lower positive = positive
is_below Upper positive = not positive

-- the sides that are told to be quiet tell of no better bound of an entry's column, beside the rests that go with them
pub record AreQuiet (b : Sides) (ss : List Span) (s : Span) (q : QuietSides) : Type 0 where
  pub lower : q.lower ≡ true → IsQuiet Greatest b.lower s (rest Greatest s.id ss)
  pub upper : q.upper ≡ true → IsQuiet Least b.upper s (rest Least s.id ss)

-- an upper bound that is kept
abbrev pub kept_upper : Option ℕ → List (ℕ × Side)
kept_upper None = []
kept_upper (Some j) = (j, Upper) ∷ []

-- the bounds that are left at a cursor
abbrev pub left_of : Sides → List Span → Cursor → List (ℕ × Side)
left_of b ss c = kept_upper c.upper ++ found_among b ss (drop c.place ss)
