-- What is so of the rows at each place: the number of the open row, and how many kinds of rows were read. `Silent` says that no statement ended.
use Rattle.std.specs.Prelude.{◌≡◌, ◌≢◌, ◌<◌, ℕ, suc}
use Rattle.opb_text.specs.Tokens.{Token, Minimum, AtLeast, Equal, End}
use Rattle.opb_text.specs.declared.places.Place.{Place}
use Rattle.opb_text.specs.declared.places.Place as places
use Rattle.opb_text.specs.declared.places.Place.TheVariants.{Start, Between, CostNumber, CostLiteral, Number, Literal, Relation, RightSide}

abbrev pub IsShaped : Place → ℕ → ℕ → Type 0 → Type 0
IsShaped Start row kinds Silent = (row ≡ 1) × (kinds ≡ 1) × Silent
IsShaped places.TheVariants.Minimum row kinds Silent = (row ≡ 0) × (kinds ≡ 1) × Silent
IsShaped CostNumber row kinds Silent = (row ≡ 0) × (kinds ≡ 1) × Silent
IsShaped CostLiteral row kinds Silent = (row ≡ 0) × (kinds ≡ 1) × Silent
IsShaped Between row kinds Silent = (0 < row) × (kinds ≡ row)
IsShaped Number row kinds Silent = (0 < row) × (kinds ≡ row)
IsShaped Literal row kinds Silent = (0 < row) × (kinds ≡ row)
IsShaped Relation row kinds Silent = (0 < row) × (kinds ≡ suc row)
IsShaped RightSide row kinds Silent = (0 < row) × (kinds ≡ suc row)

-- and what is so before a token that may stand
abbrev pub IsReady : Token → ℕ → ℕ → Type 0 → Type 0
IsReady Minimum row kinds Silent = row ≡ 1
IsReady AtLeast row kinds Silent = kinds ≡ row
IsReady Equal row kinds Silent = kinds ≡ row
IsReady End row kinds Silent = (row ≡ 0 → Silent) × (row ≢ 0 → kinds ≡ suc row)
IsReady token row kinds Silent = Unit {0}

-- the open row, and how many kinds were read, behind a token
abbrev pub row_behind : Token → ℕ → ℕ
row_behind Minimum row = 0
row_behind End row = suc row
row_behind token row = row

abbrev pub kinds_behind : Token → ℕ → ℕ
kinds_behind AtLeast kinds = suc kinds
kinds_behind Equal kinds = suc kinds
kinds_behind token kinds = kinds
