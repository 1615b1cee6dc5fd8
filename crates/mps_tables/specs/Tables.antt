-- What the tables hold after some cards, of which the nearest stands first.
use Rattle.std.specs.Prelude.{◌≡◌, ℕ, List, ◌∷◌, Some, None, Result, Ok, Err}
use Rattle.mps_profile.specs.Cards.{Card}
use Rattle.mps_profile.specs.Sets.{side_set, range_set, bound_set}
use Rattle.mps_profile.specs.Rows.{row_names, row_kinds, side_of, range_of}
use Rattle.mps_profile.specs.Columns.{column_names, number_at, open_column, in_run, is_semi, is_whole, lower_of, semi_upper_of, upper_of}
use Rattle.mps_profile.specs.CardFaults.{card_fault}
use Rattle.mps_profile.specs.declared.dialect.Dialect.{Dialect}
use Rattle.mps_stores.specs.Stores.{number_in}
use Rattle.mps_tables.specs.Slots.{held, flag}
use Rattle.mps_tables.specs.declared.faults.Stop.{Stop}
use Rattle.mps_tables.specs.declared.faults.Stop as stops
use Rattle.mps_tables.specs.declared.tables.Tables.{Tables}

-- the tables are those of the cards
pub record Holds (dialect : Dialect) (cards : List Card) (tables : Tables) : Type 0 where
  pub manner : tables.dialect ≡ dialect
  pub rows : tables.rows ≡ row_names cards
  pub kinds : tables.kinds.items ≡ row_kinds cards
  pub sides : (i : ℕ) → held tables.sides i ≡ side_of dialect cards i
  pub ranges : (i : ℕ) → held tables.ranges i ≡ range_of dialect cards i
  pub columns : tables.columns ≡ column_names cards
  pub entries : (j i : ℕ) → number_in tables.entries i j ≡ number_at dialect cards j i
  pub current : tables.current ≡ open_column cards
  pub run : tables.run ≡ in_run cards
  pub wholes : (j : ℕ) → flag tables.wholes j ≡ is_whole dialect cards j
  pub semis : (j : ℕ) → flag tables.semis j ≡ is_semi dialect cards j
  pub semi_uppers : (j : ℕ) → held tables.semi_uppers j ≡ semi_upper_of dialect cards j
  pub lowers : (j : ℕ) → held tables.lowers j ≡ lower_of dialect cards j
  pub uppers : (j : ℕ) → held tables.uppers j ≡ upper_of dialect cards j
  pub first_side : tables.side_set ≡ side_set cards
  pub first_range : tables.range_set ≡ range_set cards
  pub first_bound : tables.bound_set ≡ bound_set cards

-- a card was taken, or its first fault is told
abbrev pub Took : {T : Type 0} → Dialect → List Card → Card → Result T Stop → Tables → Type 0
Took dialect cards card (Ok done) new = (card_fault dialect cards card ≡ None) × Holds dialect (card ∷ cards) new
Took dialect cards card (Err (stops.TheVariants.Fault fault)) new = card_fault dialect cards card ≡ Some fault
Took dialect cards card (Err stops.TheVariants.OutOfMemory) new = Unit {0}
