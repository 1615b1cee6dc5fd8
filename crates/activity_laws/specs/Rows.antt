-- What the rules of activities read and ask of it: a row, its sides, and the bounds of each of its columns in order. None of these is
-- crossed, and where both activities are asked for, neither is past.
use Rattle.std.specs.Prelude.{ℕ, Bool, true, false, ◌&&◌, Option, Some, None, List, [], ◌∷◌, Result, Ok}
use Rattle.fractions.specs.Number.{Number}
use Rattle.fractions.specs.Compare.{le_ℚ}
use Rattle.fractions.specs.declared.Past.{Past}
use Rattle.lp_model.specs.EndTests.{is_in_order}
use Rattle.problem_model.specs.declared.part.Contents.{Contents}
use Rattle.problem_model.specs.declared.part.Contents.TheVariants.{Entries, Sides}
use Rattle.problem_model.specs.declared.part.Part.{Part}
use Rattle.problem_model.specs.declared.part.Part.TheVariants as part
use Rattle.problem_model.specs.Sparse.{Sparse}
use Rattle.rule_words.specs.Reading.{bounds_named, found_on}
use Rattle.row_spans.specs.declared.span.Span.{Span}
use Rattle.row_spans.specs.declared.span.Extreme.TheVariants.{Least, Greatest}
use Rattle.row_spans.specs.RowSums.{activity}
use Rattle.row_spans.specs.Spans.{spans_from}

-- a rule reads the row and its sides, and then the bounds of the row's columns
abbrev pub heads : ℕ → List Part
heads i = part.Row i ∷ part.Sides i ∷ []

abbrev pub row_found : Sparse → ℕ → List Contents
row_found p i = found_on (heads i) bounds_named p

-- no column's bounds are crossed
abbrev pub all_in_order : List Span → Bool
all_in_order [] = true
all_in_order (s ∷ ss) = is_in_order s.lower s.upper && all_in_order ss

-- what is asked of a row's sides and of its entries with the bounds of their columns
abbrev pub RowTest : Type 0
RowTest = Option Number → Option Number → List Span → Bool

-- nothing is crossed, and the test holds
abbrev pub on_spans : RowTest → Option Number → Option Number → Option (List Span) → Bool
on_spans test l u None = false
on_spans test l u (Some ss) = is_in_order l u && (all_in_order ss && test l u ss)

abbrev pub on_parts : RowTest → Contents → Contents → List Contents → Bool
on_parts test (Entries ts) (Sides l u) bounds = on_spans test l u (spans_from ts bounds)
on_parts test row sides bounds = false

-- and on what was read: a row, its sides, and the bounds of its columns
abbrev pub on_row : RowTest → List Contents → Bool
on_row test (a ∷ b ∷ bounds) = on_parts test a b bounds
on_row test other = false

-- the row has an entry
abbrev pub has_some : List Span → Bool
has_some [] = false
has_some (s ∷ ss) = true

-- what is asked of the least and of the greatest activity, where neither is past
abbrev pub on_both : (Option Number → Option Number → Bool) → Result (Option Number) Past → Result (Option Number) Past → Bool
on_both test (Ok least) (Ok greatest) = test least greatest
on_both test least greatest = false

abbrev pub on_activities : (Option Number → Option Number → Bool) → List Span → Bool
on_activities test ss = on_both test (activity Least ss) (activity Greatest ss)

-- the columns' bounds keep a lower side: the least activity is at least it
abbrev pub keeps_lower : Option Number → Option Number → Bool
keeps_lower None least = true
keeps_lower (Some l) None = false
keeps_lower (Some l) (Some v) = le_ℚ l v

-- and an upper side: the greatest activity is at most it
abbrev pub keeps_upper : Option Number → Option Number → Bool
keeps_upper None greatest = true
keeps_upper (Some u) None = false
keeps_upper (Some u) (Some v) = le_ℚ v u
