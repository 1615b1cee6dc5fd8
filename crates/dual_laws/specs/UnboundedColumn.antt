-- V3: a column that no row locks in a direction in which it has no bound and costs less.
use Rattle.std.specs.Prelude.{ℕ, Bool, false, ◌&&◌, ◌||◌, List, [], ◌∷◌, Option, is_none}
use Rattle.fractions.specs.Number.{Number, zero_ℚ}
use Rattle.fractions.specs.Compare.{lt_ℚ}
use Rattle.lp_model.specs.declared.terms.Term.{Term}
use Rattle.lp_model.specs.EndTests.{is_in_order}
use Rattle.problem_model.specs.declared.part.Contents.{Contents}
use Rattle.problem_model.specs.declared.part.Contents.TheVariants.{Column, Bounds}
use Rattle.problem_model.specs.declared.part.Part.{Part}
use Rattle.problem_model.specs.declared.part.Part.TheVariants as part
use Rattle.problem_model.specs.Sparse.{Sparse}
use Rattle.rule_words.specs.Reading.{found_on, sides_named}
use Rattle.dual_laws.specs.Locks.{all_take, are_uncrossed, takes_down, takes_up}

-- it reads the column, its bounds, and the sides of the column's rows
abbrev pub heads : ℕ → List Part
heads j = part.Col j ∷ part.Bounds j ∷ []

-- upwards: the cost is below 0, there is no upper bound, and each row takes it
abbrev pub rises : List Term → Number → Option Number → List Contents → Bool
rises ts c u sides = lt_ℚ c zero_ℚ && (is_none u && all_take takes_up ts sides)

-- downwards: the cost is above 0, there is no lower bound, and each row takes it
abbrev pub falls : List Term → Number → Option Number → List Contents → Bool
falls ts c l sides = lt_ℚ zero_ℚ c && (is_none l && all_take takes_down ts sides)

-- neither the bounds nor any sides are crossed, and it rises or falls
abbrev pub is_unbounded_column : Contents → Contents → List Contents → Bool
is_unbounded_column (Column ts c) (Bounds l u w) sides = is_in_order l u && (are_uncrossed sides && (rises ts c u sides || falls ts c l sides))
is_unbounded_column column bounds sides = false

abbrev pub holds : List Contents → Bool
holds (a ∷ b ∷ sides) = is_unbounded_column a b sides
holds other = false

abbrev pub enabled : Sparse → ℕ → Bool
enabled p j = holds (found_on (heads j) sides_named p)
