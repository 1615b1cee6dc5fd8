-- How a row or a column stands in a problem, and how that is told.
use Rattle.std.specs.Prelude.{ℕ, Bool, true, false, cond, not, ◌&&◌, List, [], ◌∷◌, ◌++◌, Option, Some, None, codes}
use Rattle.fractions.specs.Number.{Number}
use Rattle.fractions.specs.Ends.{same_end}
use Rattle.number_texts.specs.Written.{written}
use Rattle.lp_model.specs.ProgramData.{ProgramData}
use Rattle.problem_model.specs.Problems.{bounds_at, column_at, row_at, sides_at}
use Rattle.problem_model.specs.Sparse.{Sparse}
use Rattle.run_report.specs.declared.named.Subject.{Subject}
use Rattle.run_report.specs.declared.named.Subject.TheVariants.{Row, Column}
use Rattle.run_report.specs.declared.story.View.{View}
use Rattle.run_report.specs.Naming.{name_at}

-- ---- how it stands
-- what is not there has no ends
abbrev pub gone : View
gone = record { live = false; lower = None; upper = None }

-- a row with its sides, or a column with its bounds
abbrev pub view_of : Sparse → Subject → View
view_of p (Row i) = cond (row_at p i).live (record { live = true; lower = (sides_at p i).lower; upper = (sides_at p i).upper }) gone
view_of p (Column j) = cond (column_at p j).live (record { live = true; lower = (bounds_at p j).lower; upper = (bounds_at p j).upper }) gone

abbrev pub is_same_bool : Bool → Bool → Bool
is_same_bool true b = b
is_same_bool false b = not b

-- both are there or neither is, and the ends are the same
abbrev pub is_same_view : View → View → Bool
is_same_view v w = is_same_bool v.live w.live && (same_end v.lower w.lower && same_end v.upper w.upper)

-- ---- how it is told
abbrev pub end_text : List ℕ → Option Number → List ℕ
end_text infinite None = infinite
end_text infinite (Some q) = written q

-- both ends, in brackets
abbrev pub range_text : Option Number → Option Number → List ℕ
range_text l u = codes "[" ++ (end_text (codes "-inf") l ++ (codes ", " ++ (end_text (codes "inf") u ++ codes "]")))

-- what a row or a column has
abbrev pub ends_word : Subject → List ℕ
ends_word (Row i) = codes "sides of "
ends_word (Column j) = codes "bounds of "

-- the name, and that it goes; or what its ends become
abbrev pub named_view_text : List ℕ → List ℕ → View → List ℕ
named_view_text word name v = cond v.live (word ++ (name ++ (codes " become " ++ range_text v.lower v.upper))) (name ++ codes " goes")

abbrev pub view_text : ProgramData → Sparse → Subject → List ℕ
view_text program p s = named_view_text (ends_word s) (name_at program s) (view_of p s)

-- of each, the first behind this mark and the others behind a comma
abbrev pub views_text : ProgramData → Sparse → List ℕ → List (Option Subject) → List ℕ
views_text program p mark [] = []
views_text program p mark (None ∷ subjects) = views_text program p mark subjects
views_text program p mark (Some s ∷ subjects) = mark ++ (view_text program p s ++ views_text program p (codes ", ") subjects)
