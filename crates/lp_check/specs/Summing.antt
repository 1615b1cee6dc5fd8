-- Sums of the rows' products as they are made, column after column, in a kind of numbers.
use Rattle.std.specs.Prelude.{◌≡◌, ℕ, ◌+◌, ◌<◌, ◌≤◌, List, Some, None, length, option_map, slice_index_or}
use Rattle.fractions.specs.Number.{Number, zero_ℚ}
use Rattle.fractions.specs.Room.{Room}
use Rattle.lp_model.specs.Vectors.{Vector}
use Rattle.lp_model.specs.LinearProgram.{LinearProgram}
use Rattle.lp_prices.specs.Prices.{IsSumIn}
use Rattle.lp_check.specs.declared.sums.RowSum.{RowSum}

-- the sum of a row over the first n columns; none past those is counted
pub record IsRowSumIn {A : Type 0} (number : A → Number) (m : Room) (n : ℕ) (a x : Vector) (r : RowSum A) : Type 0 where
  pub counted : r.counted ≤ n
  pub sum : IsSumIn m n a x (option_map number r.sum)

-- a row's sum before and after the product f * w of column j: it is counted, unless one of that column was
pub record CountsIn {A : Type 0} (number : A → Number) (m : Room) (j : ℕ) (f w : Number) (old new : RowSum A) : Type 0 where
  pub again : j < old.counted → new ≡ old
  pub counted : old.counted ≤ j → new.counted ≡ j + 1
  pub sum : (a x : Vector) → old.counted ≤ j → f ≡ a j → w ≡ x j → IsSumIn m j a x (option_map number old.sum) → IsSumIn m (j + 1) a x (option_map number new.sum)

-- the sum of no products
pub record IsNoSum {A : Type 0} (number : A → Number) (r : RowSum A) : Type 0 where
  pub counted : r.counted ≡ 0
  pub sum : option_map number r.sum ≡ Some zero_ℚ

-- stands for a sum past the last
abbrev pub past_last : {A : Type 0} → RowSum A
past_last = record { sum = None; counted = 0 }

abbrev pub sum_of : {A : Type 0} → List (RowSum A) → ℕ → RowSum A
sum_of sums i = slice_index_or sums i past_last

-- a sum of each row over the first n columns
pub record AreRowSumsIn {A : Type 0} (number : A → Number) (m : Room) (M : LinearProgram) (x : Vector) (n : ℕ) (sums : List (RowSum A)) : Type 0 where
  pub long : length sums ≡ M.rows
  pub each : (i : ℕ) → i < M.rows → IsRowSumIn number m n (M.coefficient i) x (sum_of sums i)
