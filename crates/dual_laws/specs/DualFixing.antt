-- K10: a column that no row locks in the direction in which it doesn't cost more is fixed at its bound there.
use Rattle.std.specs.Prelude.{ℕ, ⊤, Bool, false, not, ◌&&◌, ◌||◌, List, [], ◌∷◌, Option, if◌then◌else◌}
use Rattle.fractions.specs.Number.{Number, zero_ℚ}
use Rattle.fractions.specs.Compare.{lt_ℚ}
use Rattle.lp_model.specs.declared.terms.Term.{Term}
use Rattle.lp_model.specs.EndTests.{is_apart, is_place}
use Rattle.undo_records.specs.declared.undo.Undo.{Undo}
use Rattle.undo_records.specs.declared.undo.Undo.TheVariants as undo
use Rattle.problem_model.specs.declared.edit.Edit.{Edit}
use Rattle.problem_model.specs.declared.edit.Edit.TheVariants.{SetBounds}
use Rattle.problem_model.specs.declared.part.Contents.{Contents}
use Rattle.problem_model.specs.declared.part.Contents.TheVariants.{Column, Bounds}
use Rattle.problem_model.specs.declared.part.Part.{Part}
use Rattle.problem_model.specs.declared.part.Part.TheVariants as part
use Rattle.problem_model.specs.Problems.{bounds_at, cost_at, column_entries}
use Rattle.problem_model.specs.Sparse.{Sparse}
use Rattle.rule_words.specs.Reading.{found_on, sides_named}
use Rattle.dual_laws.specs.Locks.{all_take, are_uncrossed, sides_on, takes_down, takes_up}

-- it reads the column, its bounds, and the sides of the column's rows
abbrev pub heads : ℕ → List Part
heads j = part.Col j ∷ part.Bounds j ∷ []

-- down: the lower bound is finite, whole if the column is, the cost not below 0, and each row takes it
abbrev pub goes_down : List Term → Number → Option Number → Bool → List Contents → Bool
goes_down ts c l w sides = is_place l w && (not (lt_ℚ c zero_ℚ) && all_take takes_down ts sides)

-- up: the upper bound is finite, whole if the column is, the cost not above 0, and each row takes it
abbrev pub goes_up : List Term → Number → Option Number → Bool → List Contents → Bool
goes_up ts c u w sides = is_place u w && (not (lt_ℚ zero_ℚ c) && all_take takes_up ts sides)

-- the bounds are apart, no sides are crossed, and it goes down or up
abbrev pub is_dual_fixing : Contents → Contents → List Contents → Bool
is_dual_fixing (Column ts c) (Bounds l u w) sides = is_apart l u && (are_uncrossed sides && (goes_down ts c l w sides || goes_up ts c u w sides))
is_dual_fixing column bounds sides = false

abbrev pub holds : List Contents → Bool
holds (a ∷ b ∷ sides) = is_dual_fixing a b sides
holds other = false

abbrev pub enabled : Sparse → ℕ → Bool
enabled p j = holds (found_on (heads j) sides_named p)

-- the bound at which it is fixed: the lower one where it goes down, else the upper one
abbrev pub end_kept : List Term → Number → Option Number → Option Number → Bool → List Contents → Option Number
end_kept ts c l u w sides = if goes_down ts c l w sides then l else u

abbrev pub place_of : Sparse → ℕ → Option Number
place_of p j = end_kept (column_entries p j) (cost_at p j) (bounds_at p j).lower (bounds_at p j).upper (bounds_at p j).whole (sides_on p j)

abbrev pub edits : Sparse → ℕ → List Edit
edits p j = SetBounds j (place_of p j) (place_of p j) ∷ []

abbrev pub record_of : Sparse → ℕ → Undo
record_of p j = undo.DualFixing (record { column = j })

-- nothing is computed
abbrev pub Computes : Sparse → ℕ → Type 0
Computes p j = ⊤
