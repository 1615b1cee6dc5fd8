-- Which item of a program decides on a ray.
use Rattle.std.specs.Prelude.{◌≡◌, ◌⊎◌, ℕ, ◌<◌, length}
use Rattle.fractions.specs.Number.{zero_ℚ}
use Rattle.fractions.specs.Order.{◌≤ℚ◌, ◌<ℚ◌}
use Rattle.lp_model.specs.LinearProgram.{LinearProgram}
use Rattle.lp_model.specs.Meaning.{meaning}
use Rattle.lp_model.specs.ProgramData.{ProgramData}
use Rattle.lp_rays.specs.Ray.{Weights, IsWeight, net_at, total_of}
use Rattle.ray_check.specs.Room.{ColumnFits, TotalFits}
use Rattle.ray_check.specs.declared.verdict.RayChecked.{RayChecked}
use Rattle.ray_check.specs.declared.verdict.RayChecked.TheVariants.{Yes, NoRow, NoColumn, NoTotal, PastColumn, PastTotal}

-- the weights of row i are weights of its sides, and those of column j of its bounds
abbrev pub RowHolds : LinearProgram → Weights → ℕ → Type 0
RowHolds M w i = IsWeight (M.lower_side i) (w.s i) × IsWeight (M.upper_side i) (w.t i)

abbrev pub ColumnHolds : LinearProgram → Weights → ℕ → Type 0
ColumnHolds M w j = IsWeight (M.lower_bound j) (w.p j) × IsWeight (M.upper_bound j) (w.q j)

-- the sum of column j is 0
abbrev pub IsBalanced : LinearProgram → Weights → ℕ → Type 0
IsBalanced M w j = net_at M w j ≡ zero_ℚ

-- column j passes: its weights, and then its sum, which has room
abbrev pub ColumnPasses : ProgramData → Weights → ℕ → Type 0
ColumnPasses d w j = ColumnHolds (meaning d) w j × ColumnFits d w j × IsBalanced (meaning d) w j

-- the sum of each column has room
abbrev pub ColumnsFit : ProgramData → Weights → Type 0
ColumnsFit d w = (j : ℕ) → j < length d.columns → ColumnFits d w j

-- the first n rows pass, and the first n columns
abbrev pub RowsPass : ProgramData → Weights → ℕ → Type 0
RowsPass d w n = (i : ℕ) → i < n → RowHolds (meaning d) w i

abbrev pub ColumnsPass : ProgramData → Weights → ℕ → Type 0
ColumnsPass d w n = (j : ℕ) → j < n → ColumnPasses d w j

-- all that comes before column j passes, and all that comes before the total
abbrev pub BeforeColumn : ProgramData → Weights → ℕ → Type 0
BeforeColumn d w j = RowsPass d w (length d.rows) × ColumnsPass d w j

abbrev pub BeforeTotal : ProgramData → Weights → Type 0
BeforeTotal d w = BeforeColumn d w (length d.columns)

-- DecidesRay: the verdict is that of the first item that does not pass. First come the rows by id, then the columns by id, of each its
-- weights and then its sum, then the total.
abbrev pub DecidesRay : ProgramData → Weights → RayChecked → Type 0
DecidesRay d w Yes = BeforeTotal d w × TotalFits (meaning d) w × (zero_ℚ <ℚ total_of (meaning d) w)
DecidesRay d w (NoRow i) = RowsPass d w i × (i < length d.rows) × (RowHolds (meaning d) w i → ⊥)
DecidesRay d w (NoColumn j) = BeforeColumn d w j × (j < length d.columns)
    × ((ColumnHolds (meaning d) w j → ⊥) ⊎ (ColumnHolds (meaning d) w j × ColumnFits d w j × (IsBalanced (meaning d) w j → ⊥)))
DecidesRay d w (NoTotal t) = BeforeTotal d w × TotalFits (meaning d) w × (t ≡ total_of (meaning d) w) × (t ≤ℚ zero_ℚ)
DecidesRay d w (PastColumn j) = BeforeColumn d w j × (j < length d.columns) × ColumnHolds (meaning d) w j × (ColumnFits d w j → ⊥)
DecidesRay d w PastTotal = BeforeTotal d w × (TotalFits (meaning d) w → ⊥)
