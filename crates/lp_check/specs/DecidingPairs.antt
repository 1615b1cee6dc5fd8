-- Which item of a program decides on a point with duals.
use Rattle.std.specs.Prelude.{◌≡◌, ℕ, ◌<◌, ⊤, Option}
use Rattle.fractions.specs.Number.{Number}
use Rattle.fractions.specs.Room.{Room, in_frac}
use Rattle.lp_model.specs.declared.program.Sense.{Sense}
use Rattle.lp_model.specs.Vectors.{Vector}
use Rattle.lp_model.specs.LinearProgram.{LinearProgram, value_at}
use Rattle.lp_model.specs.Optimality.{reduced_cost}
use Rattle.lp_model.specs.Senses.{Sits}
use Rattle.lp_prices.specs.Prices.{ReducedCostFitsIn}
use Rattle.lp_check.specs.declared.verdicts.Item.TheVariants.{Column, Row, Cost}
use Rattle.lp_check.specs.declared.verdicts.Verdict.{Verdict}
use Rattle.lp_check.specs.declared.verdicts.Verdict.TheVariants.{Yes, No, Past}
use Rattle.lp_check.specs.declared.pair_verdicts.Misplaced.{Misplaced}
use Rattle.lp_check.specs.declared.pair_verdicts.PairVerdict.{PairVerdict}
use Rattle.lp_check.specs.declared.pair_verdicts.PairVerdict.TheVariants.{OnPoint, Dual, ReducedCost, PastReducedCost}
use Rattle.lp_check.specs.Deciding.{EarlierPassIn, DecidesIn}
use Rattle.lp_check.specs.Placing.{IsAway}

-- the dual of row i passes, and the reduced cost of column j
abbrev pub DualPasses : Sense → LinearProgram → Vector → Vector → ℕ → Type 0
DualPasses s M x y i = Sits s (M.lower_side i) (M.upper_side i) (value_at M i x) (y i)

abbrev pub ReducedCostPassesIn : Room → Sense → LinearProgram → Vector → Vector → ℕ → Type 0
ReducedCostPassesIn m s M x y j = ReducedCostFitsIn m M y j × Sits s (M.lower_bound j) (M.upper_bound j) (x j) (reduced_cost M y j)

-- the duals of the first n rows pass, and the reduced costs of the first n columns
abbrev pub DualsPass : Sense → LinearProgram → Vector → Vector → ℕ → Type 0
DualsPass s M x y n = (i : ℕ) → i < n → DualPasses s M x y i

abbrev pub ReducedCostsPassIn : Room → Sense → LinearProgram → Vector → Vector → ℕ → Type 0
ReducedCostsPassIn m s M x y n = (j : ℕ) → j < n → ReducedCostPassesIn m s M x y j

-- these are the multiplier m of what has the value v, and the one of its ends l and u that the multiplier's sign asks for, where v is not
abbrev pub IsMisplaced : Sense → Number → Number → Option Number → Option Number → Misplaced Number → Type 0
IsMisplaced s m v l u found = (found.multiplier ≡ m) × (found.value ≡ v) × IsAway s l u v m found.end

-- all columns and rows pass with this verdict on the point
abbrev pub IsOnCost : Verdict Number → Type 0
IsOnCost (Yes c) = ⊤
IsOnCost (No item v limit) = ⊥
IsOnCost (Past (Column j)) = ⊥
IsOnCost (Past (Row i)) = ⊥
IsOnCost (Past Cost) = ⊤

-- DecidesPairIn: the verdict is that of the first item that does not pass. First come the columns and the rows, as for a point, then the
-- rows' duals by id, the columns' reduced costs by id, and the cost. Where each item passes it is yes with the cost.
abbrev pub DecidesPairIn : Room → Sense → LinearProgram → Vector → Vector → PairVerdict Number → Type 0
DecidesPairIn m s M x y (OnPoint verdict) = DecidesIn m M x verdict × (IsOnCost verdict → DualsPass s M x y M.rows × ReducedCostsPassIn m s M x y M.columns)
DecidesPairIn m s M x y (Dual i found) = EarlierPassIn m M x Cost × DualsPass s M x y i
    × (i < M.rows) × IsMisplaced s (y i) (value_at M i x) (M.lower_side i) (M.upper_side i) found
DecidesPairIn m s M x y (ReducedCost j found) = EarlierPassIn m M x Cost × DualsPass s M x y M.rows × ReducedCostsPassIn m s M x y j
    × (j < M.columns) × ReducedCostFitsIn m M y j × IsMisplaced s (reduced_cost M y j) (x j) (M.lower_bound j) (M.upper_bound j) found
DecidesPairIn m s M x y (PastReducedCost j) = EarlierPassIn m M x Cost × DualsPass s M x y M.rows × ReducedCostsPassIn m s M x y j
    × (j < M.columns) × (ReducedCostFitsIn m M y j → ⊥)

-- the same in a `Frac`
abbrev pub DecidesPair : Sense → LinearProgram → Vector → Vector → PairVerdict Number → Type 0
DecidesPair s M x y verdict = DecidesPairIn in_frac s M x y verdict
