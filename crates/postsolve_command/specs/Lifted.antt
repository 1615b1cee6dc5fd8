-- What records make of a reduced point, alone or with duals, and the texts of that.
use Rattle.std.specs.Prelude.{◌≡◌, ◌⊎◌, ℕ, List, [], ◌∷◌, ◌++◌, codes, length, map, Option, Some, None, Result, Ok, Err, All}
use Rattle.std.specs.Fmt.{decimal}
use Rattle.fractions.specs.Number.{Number}
use Rattle.fractions.specs.Room.{Room}
use Rattle.lp_model.specs.ProgramData.{ProgramData}
use Rattle.lp_model.specs.Meaning.{meaning}
use Rattle.lp_model.specs.Reductions.{Priced}
use Rattle.lp_model.specs.Vectors.{Vector, vector_of}
use Rattle.lp_prices.specs.Prices.{ReducedCostsFitIn}
use Rattle.exact_texts.specs.Texts.{Writing}
use Rattle.point_text.specs.PairText.{pair_text_by}
use Rattle.point_text.specs.declared.pairs.PairOf.{PairOf}
use Rattle.undo_records.specs.Named.{live_names}
use Rattle.undo_records.specs.Lift.{lift, placed}
use Rattle.undo_records.specs.Postsolve.{Postsolve}
use Rattle.undo_records.specs.Room.{LiftFits, StopsAt}
use Rattle.undo_pairs.specs.LiftPair.{lift_pair}
use Rattle.undo_pairs.specs.Numbers.{IsSized, PairNumbers, priced_of, started, turned_for}
use Rattle.postsolve_dual.specs.PairRoom.{IsFirstPast, LiftPairFits, PairStopsAt}
use Rattle.endings.specs.ProgramTexts.{column_text}
use Rattle.postsolve_command.specs.declared.refusal.Refusal.{Refusal}
use Rattle.postsolve_command.specs.declared.refusal.Refusal.TheVariants.{Stopped, NoMemory}
use Rattle.postsolve_command.specs.declared.lifted.Texts.{Texts}

-- a reduced point, at the original columns
abbrev pub point_at : Postsolve → List Number → Vector
point_at records point = vector_of (placed records.columns point)

-- the lift of a reduced point has room in a kind of numbers, and these are its numbers, one for each original column; each has room
pub record IsLift (m : Room) (records : Postsolve) (point lifted : List Number) : Type 0 where
  pub fits : LiftFits m records.undos (point_at records point)
  pub room : All m.number lifted
  pub size : length lifted ≡ length records.columns
  pub is : vector_of lifted ≡ lift records.undos (point_at records point)

-- what the records make of a reduced point with duals, in the sense of the file
abbrev pub pair_lifted : Postsolve → ProgramData → List Number → List Number → Priced
pair_lifted records program point duals = turned_for records.sense (lift_pair records.undos (started records program point duals))

-- the lift of a reduced point with duals has room, and so have the reduced costs that it starts with; these are its values, one for
-- each original column, and its prices, one for each original row; each has room
pub record IsPairLift (m : Room) (records : Postsolve) (program : ProgramData) (point duals lifted prices : List Number) : Type 0 where
  pub priced : ReducedCostsFitIn m (meaning program) (vector_of duals)
  pub fits : LiftPairFits m records.undos (started records program point duals)
  pub room : All m.number lifted
  pub prices_room : All m.number prices
  pub size : length lifted ≡ length records.columns
  pub prices_size : length prices ≡ length records.rows
  pub is : vector_of lifted ≡ (pair_lifted records program point duals).x
  pub prices_are : vector_of prices ≡ (pair_lifted records program point duals).y

-- the lift of a reduced point, with its duals if it has duals
abbrev pub IsLifted : Room → Postsolve → ProgramData → List Number → Option (List Number) → List Number → Option (List Number) → Type 0
IsLifted m records program point None lifted None = IsLift m records point lifted
IsLifted m records program point None lifted (Some prices) = ⊥
IsLifted m records program point (Some duals) lifted None = ⊥
IsLifted m records program point (Some duals) lifted (Some prices) = IsPairLift m records program point duals lifted prices

-- the original columns' and rows' names
abbrev pub column_names : Postsolve → List (List ℕ)
column_names records = map (λ column. column.name) records.columns

abbrev pub row_names : Postsolve → List (List ℕ)
row_names records = map (λ row. row.name) records.rows

-- how many columns are live, and how many there are
abbrev pub columns_text : Postsolve → List ℕ
columns_text records = codes "columns " ++ (decimal (length (live_names records.columns)) ++ (codes " -> " ++ (decimal (length records.columns) ++ 10 ∷ [])))

-- how many rows are live, and how many there are
abbrev pub rows_text : Postsolve → List ℕ
rows_text records = codes "rows " ++ (decimal (length (live_names records.rows)) ++ (codes " -> " ++ (decimal (length records.rows) ++ 10 ∷ [])))

-- the columns, and with duals the rows
abbrev pub counts_text : Postsolve → Option (List Number) → List ℕ
counts_text records None = columns_text records
counts_text records (Some duals) = columns_text records ++ rows_text records

-- the lift by the original names, and what is printed
pub record AreTexts (m : Room) (w : Writing) (records : Postsolve) (program : ProgramData) (point : List Number) (duals : Option (List Number)) (result printed : List ℕ) : Type 0 where
  pub lifted : List Number
  pub prices : Option (List Number)
  pub lifts : IsLifted m records program point duals lifted prices
  pub result_text : result ≡ pair_text_by w (column_names records) (row_names records) lifted prices
  pub printed_text : printed ≡ counts_text records duals

-- ---- a lift without room
-- the line of a lift that has no room, by the record at which it stops
abbrev pub stop_text : ℕ → List ℕ
stop_text at = codes "past record " ++ (decimal at ++ 10 ∷ [])

-- the line of duals that leave a column a reduced cost without room
abbrev pub unpriced_text : ProgramData → ℕ → List ℕ
unpriced_text program column = codes "past column " ++ (column_text program column ++ 10 ∷ [])

-- a reduced cost has no room, and the first such column is named
abbrev pub IsUnpriced : Room → ProgramData → List Number → List ℕ → Type 0
IsUnpriced m program duals said = (column : ℕ) × IsFirstPast m (meaning program) (vector_of duals) column × (said ≡ unpriced_text program column)

-- the reduced costs have room, the lift has none, and the record at which it stops is named
abbrev pub PairStops : Room → Postsolve → ProgramData → List Number → List Number → List ℕ → Type 0
PairStops m records program point duals said = ReducedCostsFitIn m (meaning program) (vector_of duals)
    × ((at : ℕ) × PairStopsAt m records.undos (started records program point duals) at × (said ≡ stop_text at))

-- the line of a lift that has no room
abbrev pub Stops : Room → Postsolve → ProgramData → List Number → Option (List Number) → List ℕ → Type 0
Stops m records program point None said = (at : ℕ) × StopsAt m records.undos (point_at records point) at × (said ≡ stop_text at)
Stops m records program point (Some duals) said = IsUnpriced m program duals said ⊎ PairStops m records program point duals said

-- ---- what the steps of a lift give
-- a reduced point with duals at the original ids, in the minimizing sense
pub record IsStarted (m : Room) (records : Postsolve) (program : ProgramData) (point duals : List Number) (pair : PairNumbers) : Type 0 where
  pub priced : ReducedCostsFitIn m (meaning program) (vector_of duals)
  pub is : priced_of pair ≡ started records program point duals
  pub sized : IsSized (length records.rows) (length records.columns) pair

-- it, or the column whose reduced cost has no room
abbrev pub Starts : Room → Postsolve → ProgramData → List Number → List Number → Result PairNumbers Refusal → Type 0
Starts m records program point duals (Ok pair) = IsStarted m records program point duals pair
Starts m records program point duals (Err (Stopped line)) = IsUnpriced m program duals line.items
Starts m records program point duals (Err NoMemory) = Unit {0}
Starts m records program point duals (Err other) = ⊥

-- the lift, or where it stops
abbrev pub Lifts : {A B : Type 0} → Room → Postsolve → ProgramData → List Number → Option (List Number) → Result (PairOf A B) Refusal → Type 0
Lifts m records program point duals (Ok pair) = IsLifted m records program point duals pair.point pair.duals
Lifts m records program point duals (Err (Stopped line)) = Stops m records program point duals line.items
Lifts m records program point duals (Err NoMemory) = Unit {0}
Lifts m records program point duals (Err other) = ⊥

-- the texts of the lift, or where it stops
abbrev pub GivesTexts : Room → Writing → Postsolve → ProgramData → List Number → Option (List Number) → Result Texts Refusal → Type 0
GivesTexts m w records program point duals (Ok texts) = AreTexts m w records program point duals texts.result.items texts.printed.items
GivesTexts m w records program point duals (Err (Stopped line)) = Stops m records program point duals line.items
GivesTexts m w records program point duals (Err NoMemory) = Unit {0}
GivesTexts m w records program point duals (Err other) = ⊥
