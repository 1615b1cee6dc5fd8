-- K3: a column with equal bounds is put into the sides of its rows.
use Rattle.std.specs.Prelude.{ℕ, Bool, false, List, [], ◌∷◌, ◌++◌, map, All, unwrap_or}
use Rattle.fractions.specs.Number.{Number, zero_ℚ, ◌*ℚ◌}
use Rattle.fractions.specs.Lowest.{Fits}
use Rattle.undo_records.specs.declared.undo.Undo.{Undo}
use Rattle.undo_records.specs.declared.undo.Undo.TheVariants as undo
use Rattle.problem_model.specs.declared.edit.Edit.{Edit}
use Rattle.problem_model.specs.declared.edit.Edit.TheVariants.{AddOffset, DeleteColumn}
use Rattle.problem_model.specs.declared.part.Contents.{Contents}
use Rattle.problem_model.specs.declared.part.Contents.TheVariants.{Column, Bounds}
use Rattle.problem_model.specs.declared.part.Part.{Part}
use Rattle.problem_model.specs.declared.part.Part.TheVariants as part
use Rattle.lp_model.specs.EndTests.{is_fixed}
use Rattle.problem_model.specs.Problems.{bounds_at, cost_at, column_entries}
use Rattle.problem_model.specs.Sparse.{Sparse}
use Rattle.rule_words.specs.Reading.{found_on, no_more}
use Rattle.rule_words.specs.MovedSides.{sides_less, SidesFit}

-- it reads the column and its bounds
abbrev pub heads : ℕ → List Part
heads j = part.Col j ∷ part.Bounds j ∷ []

-- the bounds are one number, whole if the column is
abbrev pub is_fixed_column : Contents → Contents → Bool
is_fixed_column (Column ts c) (Bounds l u w) = is_fixed l u w
is_fixed_column column bounds = false

abbrev pub holds : List Contents → Bool
holds (a ∷ b ∷ []) = is_fixed_column a b
holds other = false

abbrev pub enabled : Sparse → ℕ → Bool
enabled p j = holds (found_on (heads j) no_more p)

-- that number: the lower bound
abbrev pub value_of : Sparse → ℕ → Number
value_of p j = unwrap_or (bounds_at p j).lower zero_ℚ

-- what is left of the column: its cost goes to the offset
abbrev pub column_out : ℕ → Number → List Edit
column_out j k = AddOffset k ∷ DeleteColumn j ∷ []

abbrev pub edits : Sparse → ℕ → List Edit
edits p j = map (sides_less p (value_of p j)) (column_entries p j) ++ column_out j (cost_at p j *ℚ value_of p j)

-- the record keeps the column
abbrev pub record_of : Sparse → ℕ → Undo
record_of p j = undo.FixedColumn (record { column = j; value = value_of p j; cost = cost_at p j; entries = column_entries p j })

-- the products and differences are computed
abbrev pub Computes : Sparse → ℕ → Type 0
Computes p j = All (SidesFit p (value_of p j)) (column_entries p j) × Fits (cost_at p j *ℚ value_of p j)
