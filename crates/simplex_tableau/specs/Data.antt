-- A tableau as data.
use Rattle.std.specs.Prelude.{◌≡◌, ℕ, Bool, true, false, List, [], length, slice_index_or}
use Rattle.fractions.specs.Number.{Number}
use Rattle.lp_model.specs.Vectors.{vector_of}
use Rattle.tableau_rows.specs.Places.{row_of}
use Rattle.tableau_laws.specs.Tableaus.{Tableau}
use Rattle.tableau_laws.specs.Keeping.{IsSplit}

-- by variable: its row, which is empty where it isn't basic, whether it is basic, its price and its value
pub record TableauData : Type 0 where
  pub rows : List (List Number)
  pub basic : List Bool
  pub prices : List Number
  pub values : List Number
  pub spent : Bool

-- the tableau that the data show
abbrev pub shown : TableauData → Tableau
shown d = record {
  size = length d.values;
  basic = λ k. slice_index_or d.basic k false;
  table = λ m. row_of d.rows m;
  prices = vector_of d.prices;
  values = vector_of d.values;
}

-- there is a row, a flag and a price for each value; a basic variable's row has a number for each, and stands in no row
pub record IsShaped (d : TableauData) : Type 0 where
  pub rows : length d.rows ≡ length d.values
  pub basic : length d.basic ≡ length d.values
  pub prices : length d.prices ≡ length d.values
  pub long : (m : ℕ) → slice_index_or d.basic m false ≡ true → length (slice_index_or d.rows m []) ≡ length d.values
  pub empty : (m : ℕ) → slice_index_or d.basic m false ≡ false → length (slice_index_or d.rows m []) ≡ 0
  pub split : IsSplit (shown d)

-- unless it is spent
abbrev pub IsKept : TableauData → Type 0
IsKept d = d.spent ≡ false → IsShaped d
