-- Which item of a program decides on a point.
use Rattle.std.specs.Prelude.{◌≡◌, ℕ, ◌<◌, false}
use Rattle.fractions.specs.Number.{Number}
use Rattle.fractions.specs.Room.{Room, in_frac}
use Rattle.lp_model.specs.Vectors.{Vector}
use Rattle.lp_model.specs.LinearProgram.{LinearProgram, value_at, cost_at}
use Rattle.lp_model.specs.Room.{ValueFitsIn, CostFitsIn}
use Rattle.lp_check.specs.declared.verdicts.Item.{Item}
use Rattle.lp_check.specs.declared.verdicts.Item.TheVariants.{Column, Row, Cost}
use Rattle.lp_check.specs.declared.verdicts.Limit.{Limit}
use Rattle.lp_check.specs.declared.verdicts.Verdict.{Verdict}
use Rattle.lp_check.specs.declared.verdicts.Verdict.TheVariants.{Yes, No, Past}
use Rattle.lp_check.specs.Limits.{Keeps, Breaks, BreaksColumn}
use Rattle.lp_model.specs.Gaps.{Clears}

-- the item keeps its limits, and its sum, if it is one, has room in a kind of numbers
abbrev pub PassesIn : Room → LinearProgram → Vector → Item → Type 0
PassesIn m M x (Column j) = Keeps (M.lower_bound j) (M.upper_bound j) (M.whole j) (x j) × Clears (M.gap j) (x j)
PassesIn m M x (Row i) = ValueFitsIn m M i x × Keeps (M.lower_side i) (M.upper_side i) false (value_at M i x)
PassesIn m M x Cost = CostFitsIn m M x

-- v is the item's value, and this is the limit that it breaks
abbrev pub FailsIn : Room → LinearProgram → Vector → Item → Number → Limit → Type 0
FailsIn m M x (Column j) v limit = (j < M.columns) × (v ≡ x j) × BreaksColumn (M.gap j) (M.lower_bound j) (M.upper_bound j) (M.whole j) v limit
FailsIn m M x (Row i) v limit = (i < M.rows) × ValueFitsIn m M i x × (v ≡ value_at M i x) × Breaks (M.lower_side i) (M.upper_side i) false v limit
FailsIn m M x Cost v limit = ⊥

-- the item's sum has no room
abbrev pub HasNoRoomIn : Room → LinearProgram → Vector → Item → Type 0
HasNoRoomIn m M x (Column j) = ⊥
HasNoRoomIn m M x (Row i) = (i < M.rows) × (ValueFitsIn m M i x → ⊥)
HasNoRoomIn m M x Cost = CostFitsIn m M x → ⊥

-- the first n columns pass, and the first n rows
abbrev pub ColumnsPassIn : Room → LinearProgram → Vector → ℕ → Type 0
ColumnsPassIn m M x n = (j : ℕ) → j < n → PassesIn m M x (Column j)

abbrev pub RowsPassIn : Room → LinearProgram → Vector → ℕ → Type 0
RowsPassIn m M x n = (i : ℕ) → i < n → PassesIn m M x (Row i)

-- each item before this one passes: first come the columns by id, then the rows by id, then the cost
abbrev pub EarlierPassIn : Room → LinearProgram → Vector → Item → Type 0
EarlierPassIn m M x (Column j) = ColumnsPassIn m M x j
EarlierPassIn m M x (Row i) = ColumnsPassIn m M x M.columns × RowsPassIn m M x i
EarlierPassIn m M x Cost = ColumnsPassIn m M x M.columns × RowsPassIn m M x M.rows

-- DecidesIn: the verdict is that of the first item that does not pass, and yes with the cost where each item passes
abbrev pub DecidesIn : Room → LinearProgram → Vector → Verdict Number → Type 0
DecidesIn m M x (Yes c) = EarlierPassIn m M x Cost × PassesIn m M x Cost × (c ≡ cost_at M x)
DecidesIn m M x (No item v limit) = EarlierPassIn m M x item × FailsIn m M x item v limit
DecidesIn m M x (Past item) = EarlierPassIn m M x item × HasNoRoomIn m M x item

-- the same in a `Frac`
abbrev pub Decides : LinearProgram → Vector → Verdict Number → Type 0
Decides M x verdict = DecidesIn in_frac M x verdict
