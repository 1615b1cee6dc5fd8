-- What a point does not meet.
use Rattle.std.specs.Prelude.{◌≡◌, ◌≢◌, ◌⊎◌, ℕ, ◌<◌, IsTrue, Option, Some, None, IfSome}
use Rattle.fractions.specs.Number.{Number, zero_ℚ}
use Rattle.fractions.specs.Order.{◌<ℚ◌}
use Rattle.lp_model.specs.declared.plain.Violation.{Violation}
use Rattle.lp_model.specs.declared.plain.Violation.TheVariants.{Side, Bound, Broken}
use Rattle.lp_model.specs.declared.program.ColumnDef.{ColumnDef}
use Rattle.fractions.specs.Ends.{Between}
use Rattle.fractions.specs.Floor.{IsWhole}
use Rattle.lp_model.specs.Vectors.{Vector}
use Rattle.lp_model.specs.Gaps.{Lies, Clears, given_lower, given_upper}
use Rattle.lp_model.specs.LinearProgram.{LinearProgram, value_at, Feasible}

-- v is past the end e: e is the lower end and v below it, or e is the upper end and v above it
abbrev pub IsPast : Option Number → Option Number → Number → Number → Type 0
IsPast l u v e = ((l ≡ Some e) × (v <ℚ e)) ⊎ ((u ≡ Some e) × (e <ℚ v))

-- what Feasible asks of the rows, and of the columns
abbrev pub RowsHold : LinearProgram → Vector → Type 0
RowsHold M x = (i : ℕ) → i < M.rows → Between (M.lower_side i) (M.upper_side i) (value_at M i x)

abbrev pub ColumnsHold : LinearProgram → Vector → Type 0
ColumnsHold M x = (j : ℕ) → j < M.columns → Between (M.lower_bound j) (M.upper_bound j) (x j) × (IsTrue (M.whole j) → IsWhole (x j)) × Clears (M.gap j) (x j)

-- the point violates this side, this bound or that this column is whole
abbrev pub Violates : LinearProgram → Vector → Violation → Type 0
Violates M x (Side i v e) = (i < M.rows) × (v ≡ value_at M i x) × IsPast (M.lower_side i) (M.upper_side i) v e
Violates M x (Bound j v e) = (j < M.columns) × (v ≡ x j) × IsPast (given_lower (M.gap j) (M.lower_bound j)) (given_upper (M.gap j) (M.upper_bound j)) v e × IfSome (M.gap j) (λ g. v ≢ zero_ℚ)
Violates M x (Broken j v) = (j < M.columns) × (v ≡ x j) × IsTrue (M.whole j) × (IsWhole v → ⊥)

-- the same of one column
abbrev pub FitsColumn : ColumnDef → Number → Type 0
FitsColumn c v = Lies c.semi c.lower c.upper v × (IsTrue c.whole → IsWhole v)

abbrev pub BreaksColumn : ColumnDef → ℕ → Number → Violation → Type 0
BreaksColumn c id v (Side i w e) = ⊥
BreaksColumn c id v (Bound j w e) = (j ≡ id) × (w ≡ v) × IsPast c.lower c.upper v e × (IsTrue c.semi → v ≢ zero_ℚ)
BreaksColumn c id v (Broken j w) = (j ≡ id) × (w ≡ v) × IsTrue c.whole × (IsWhole v → ⊥)

-- no violation was found because there is none, or this one is there
abbrev pub Judged : LinearProgram → Vector → Option Violation → Type 0
Judged M x None = Feasible M x
Judged M x (Some found) = Violates M x found
