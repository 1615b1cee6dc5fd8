-- Programs that can be written as MPS text. A side or a bound that is infinite is none.
use Rattle.std.specs.Prelude.{◌≢◌, length, pos, ◌^◌, Option, Some, None, IfSome}
use Rattle.std.specs.List.{All}
use Rattle.fractions.specs.Number.{Number, ◌-ℚ◌, neg_ℚ, of_ℤ}
use Rattle.fractions.specs.Order.{◌≤ℚ◌, ◌<ℚ◌}
use Rattle.fractions.specs.Lowest.{Fits}
use Rattle.fractions.specs.Decimal as decimals
use Rattle.fractions.specs.FracWords.{SumFits}
use Rattle.fractions.specs.declared.Numbers.{Numbers}
use Rattle.fractions.specs.declared.Numbers.TheVariants.{Decimal, Fractions}
use Rattle.lp_model.specs.declared.program.RowDef.{RowDef}
use Rattle.lp_model.specs.declared.program.ColumnDef.{ColumnDef}
use Rattle.lp_model.specs.ProgramData.{ProgramData}
use Rattle.lp_model.specs.Sparse.{Ascends}

-- the number has room and, without fractions, is decimal
abbrev pub WritableNumber : Numbers → Number → Type 0
WritableNumber Decimal q = Fits q × decimals.Decimal q
WritableNumber Fractions q = Fits q

-- of a magnitude below 10^20
abbrev pub IsNear : Number → Type 0
IsNear q = (neg_ℚ (of_ℤ (pos (10 ^ 20))) <ℚ q) × (q <ℚ of_ℤ (pos (10 ^ 20)))

abbrev pub WritableBound : Numbers → Number → Type 0
WritableBound numbers bound = WritableNumber numbers bound × IsNear bound

-- the width of a row can be written, and the sum of the lower side and the width has room
pub record WritableWidth (numbers : Numbers) (lower upper : Number) : Type 0 where
  pub width_fits : SumFits upper (neg_ℚ lower)
  pub sum_fits : SumFits lower (upper -ℚ lower)
  pub width : WritableNumber numbers (upper -ℚ lower)

-- two finite sides
pub record WritablePair (numbers : Numbers) (lower upper : Number) : Type 0 where
  pub lower_number : WritableNumber numbers lower
  pub upper_number : WritableNumber numbers upper
  pub ascends : lower ≤ℚ upper
  pub width : lower ≢ upper → WritableWidth numbers lower upper

-- a side at least is finite
abbrev pub WritableSides : Numbers → Option Number → Option Number → Type 0
WritableSides numbers None None = ⊥
WritableSides numbers (Some lower) None = WritableNumber numbers lower
WritableSides numbers None (Some upper) = WritableNumber numbers upper
WritableSides numbers (Some lower) (Some upper) = WritablePair numbers lower upper

abbrev pub WritableRow : Numbers → RowDef → Type 0
WritableRow numbers row = WritableSides numbers row.lower row.upper

pub record WritableColumn (numbers : Numbers) (column : ColumnDef) : Type 0 where
  pub cost : WritableNumber numbers column.cost
  pub lower : IfSome column.lower (WritableBound numbers)
  pub upper : IfSome column.upper (WritableBound numbers)
  pub entries : All (λ term. WritableNumber numbers term.value) column.entries

pub record Writable (numbers : Numbers) (program : ProgramData) : Type 0 where
  pub constant : WritableNumber numbers program.constant
  pub rows : All (WritableRow numbers) program.rows
  pub columns : All (WritableColumn numbers) program.columns

-- the entries of each column stand at ascending rows of the program, and none is 0
abbrev pub EntriesAscend : ProgramData → Type 0
EntriesAscend p = All (λ (column : ColumnDef). Ascends 0 (length p.rows) column.entries) p.columns
