-- Whether the rows of a column take its moves, by the sides that were read for its terms, in their order.
use Rattle.std.specs.Prelude.{ℕ, Bool, true, false, not, ◌&&◌, ◌||◌, List, [], ◌∷◌, map, is_none}
use Rattle.fractions.specs.Number.{Number, zero_ℚ}
use Rattle.fractions.specs.Compare.{lt_ℚ}
use Rattle.lp_model.specs.declared.terms.Term.{Term}
use Rattle.lp_model.specs.EndTests.{is_in_order}
use Rattle.problem_model.specs.declared.part.Contents.{Contents}
use Rattle.problem_model.specs.declared.part.Contents.TheVariants.{Sides}
use Rattle.problem_model.specs.Parts.{contents_of}
use Rattle.problem_model.specs.Problems.{column_entries}
use Rattle.problem_model.specs.Sparse.{Sparse}
use Rattle.rule_words.specs.Reading.{sides_of}

-- a row in which the column has the entry a stays within its sides when the column moves down: no lower side for a > 0, no upper one for a < 0
abbrev pub takes_down : Number → Contents → Bool
takes_down a (Sides l u) = (not (lt_ℚ zero_ℚ a) || is_none l) && (not (lt_ℚ a zero_ℚ) || is_none u)
takes_down a sides = false

-- when it moves up: no upper side for a > 0, no lower one for a < 0
abbrev pub takes_up : Number → Contents → Bool
takes_up a (Sides l u) = (not (lt_ℚ zero_ℚ a) || is_none u) && (not (lt_ℚ a zero_ℚ) || is_none l)
takes_up a sides = false

-- each row takes it
abbrev pub all_take : (Number → Contents → Bool) → List Term → List Contents → Bool
all_take takes [] sides = true
all_take takes (t ∷ ts) [] = false
all_take takes (t ∷ ts) (s ∷ ss) = takes t.value s && all_take takes ts ss

-- no sides are crossed
abbrev pub is_uncrossed : Contents → Bool
is_uncrossed (Sides l u) = is_in_order l u
is_uncrossed other = false

abbrev pub are_uncrossed : List Contents → Bool
are_uncrossed [] = true
are_uncrossed (s ∷ ss) = is_uncrossed s && are_uncrossed ss

-- what the sides of a column's rows hold
abbrev pub sides_on : Sparse → ℕ → List Contents
sides_on p j = map (contents_of p) (sides_of (column_entries p j))
