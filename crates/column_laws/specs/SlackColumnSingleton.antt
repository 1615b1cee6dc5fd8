-- K14: a continuous column with one entry is a slack of its row: it leaves, and its bounds move the row's sides apart. Where neither side
-- stays finite, the row leaves too.
use Rattle.std.specs.Prelude.{ℕ, ⊤, Bool, false, not, ◌&&◌, ◌||◌, if◌then◌else◌, List, [], ◌∷◌, ◌++◌, Option, Some, None}
use Rattle.fractions.specs.Number.{Number, zero_ℚ, neg_ℚ, ◌*ℚ◌}
use Rattle.fractions.specs.Compare.{eq_ℚ, lt_ℚ}
use Rattle.fractions.specs.Ends.{minus_ends, scaled}
use Rattle.fractions.specs.Lowest.{Fits}
use Rattle.fractions.specs.FracWords.{SumFits}
use Rattle.lp_model.specs.EndTests.{is_fixed, is_in_order}
use Rattle.lp_substitutions.specs.SlackColumnSingleton.{equation_offset}
use Rattle.undo_records.specs.declared.side.RowFate.{RowFate}
use Rattle.undo_records.specs.declared.side.RowFate.TheVariants.{Dropped, Kept}
use Rattle.undo_records.specs.declared.undo.Undo.{Undo}
use Rattle.undo_records.specs.declared.undo.Undo.TheVariants as undo
use Rattle.problem_model.specs.declared.edit.Edit.{Edit}
use Rattle.problem_model.specs.declared.edit.Edit.TheVariants.{AddOffset, DeleteColumn, DeleteRow, SetSides}
use Rattle.problem_model.specs.declared.part.Contents.{Contents}
use Rattle.problem_model.specs.declared.part.Contents.TheVariants.{Entries, Sides, Column, Bounds}
use Rattle.problem_model.specs.declared.part.Part.{Part}
use Rattle.problem_model.specs.declared.part.Part.TheVariants as part
use Rattle.problem_model.specs.Problems.{bounds_at, sides_at}
use Rattle.problem_model.specs.Sparse.{Sparse}
use Rattle.rule_words.specs.Reading.{found_on, no_more}
use Rattle.column_laws.specs.SoleEntry.{CostsCompute, costs_less, entry_of, is_sole_at, others_of, price_of}

-- it reads the row, its sides, the column and its bounds
abbrev pub heads : ℕ → ℕ → List Part
heads j i = part.Row i ∷ part.Sides i ∷ part.Col j ∷ part.Bounds j ∷ []

-- both sides are one number, or the column has no cost
abbrev pub is_equation_or_free : Option Number → Option Number → Number → Bool
is_equation_or_free l u c = is_fixed l u false || eq_ℚ c zero_ℚ

-- nothing is crossed, and the column is continuous, with its one entry in row i
abbrev pub is_slack_column_singleton : ℕ → Contents → Contents → Contents → Contents → Bool
is_slack_column_singleton i (Entries ts) (Sides l u) (Column es c) (Bounds m n w) = is_in_order l u && (is_in_order m n && (not w && (is_sole_at i es && is_equation_or_free l u c)))
is_slack_column_singleton i row sides column bounds = false

abbrev pub holds : ℕ → List Contents → Bool
holds i (a ∷ b ∷ c ∷ d ∷ []) = is_slack_column_singleton i a b c d
holds i other = false

abbrev pub enabled : Sparse → ℕ → ℕ → Bool
enabled p j i = holds i (found_on (heads j i) no_more p)

-- the bound at which a times the column is the most, and the least
abbrev pub most_at : Number → Option Number → Option Number → Option Number
most_at a l u = if lt_ℚ zero_ℚ a then u else l

abbrev pub least_at : Number → Option Number → Option Number → Option Number
least_at a l u = if lt_ℚ zero_ℚ a then l else u

-- the lower side less the most, and the upper side less the least
abbrev pub new_lower : Sparse → ℕ → ℕ → Option Number
new_lower p j i = minus_ends (sides_at p i).lower (scaled (entry_of p j i) (most_at (entry_of p j i) (bounds_at p j).lower (bounds_at p j).upper))

abbrev pub new_upper : Sparse → ℕ → ℕ → Option Number
new_upper p j i = minus_ends (sides_at p i).upper (scaled (entry_of p j i) (least_at (entry_of p j i) (bounds_at p j).lower (bounds_at p j).upper))

-- t r, where both sides are r
abbrev pub gain_of : Sparse → ℕ → ℕ → Number
gain_of p j i = equation_offset (price_of p j i) (sides_at p i).lower (sides_at p i).upper

-- the column goes, and the row too where neither new side is finite
abbrev pub column_out : ℕ → ℕ → Option Number → Option Number → List Edit
column_out j i None None = DeleteColumn j ∷ DeleteRow i ∷ []
column_out j i l u = SetSides i l u ∷ DeleteColumn j ∷ []

abbrev pub edits : Sparse → ℕ → ℕ → List Edit
edits p j i = costs_less p j i ++ AddOffset (gain_of p j i) ∷ column_out j i (new_lower p j i) (new_upper p j i)

-- the record keeps the column, the sides and what became of the row
abbrev pub fate_of : Option Number → Option Number → RowFate
fate_of None None = Dropped
fate_of l u = Kept

abbrev pub record_by : Sparse → ℕ → ℕ → RowFate → Undo
record_by p j i fate = undo.SlackColumnSingleton (record { column = j; row = i; value = entry_of p j i; price = price_of p j i; lower_side = (sides_at p i).lower; upper_side = (sides_at p i).upper; lower = (bounds_at p j).lower; upper = (bounds_at p j).upper; fate = fate; entries = others_of p j i })

abbrev pub record_of : Sparse → ℕ → ℕ → Undo
record_of p j i = record_by p j i (fate_of (new_lower p j i) (new_upper p j i))

-- a side and the product that leaves it are computed where both are finite
abbrev pub SideComputes : Number → Option Number → Option Number → Type 0
SideComputes a None e = ⊤
SideComputes a (Some b) None = ⊤
SideComputes a (Some b) (Some e) = Fits (a *ℚ e) × SumFits b (neg_ℚ (a *ℚ e))

pub record Computes (p : Sparse) (j i : ℕ) : Type 0 where
  pub costs : CostsCompute p j i
  pub gain : Fits (gain_of p j i)
  pub lower : SideComputes (entry_of p j i) (sides_at p i).lower (most_at (entry_of p j i) (bounds_at p j).lower (bounds_at p j).upper)
  pub upper : SideComputes (entry_of p j i) (sides_at p i).upper (least_at (entry_of p j i) (bounds_at p j).lower (bounds_at p j).upper)
