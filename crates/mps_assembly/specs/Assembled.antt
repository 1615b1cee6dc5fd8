-- When the parts of a program, and what they give, are those that cards say.
use Rattle.std.specs.Prelude.{◌≡◌, ℕ, List, length, false, None, slice_index_or}
use Rattle.fractions.specs.Number.{neg_ℚ}
use Rattle.mps_profile.specs.Texts.{field}
use Rattle.mps_profile.specs.Cards.{Card}
use Rattle.mps_profile.specs.Rows.{row_names, row_kinds, side_of, range_of, right_side}
use Rattle.mps_profile.specs.Columns.{column_names, number_at, is_semi, is_whole, lower_of, semi_upper_of, upper_of}
use Rattle.mps_profile.specs.Program.{objective_place, row_defs, column_defs}
use Rattle.mps_profile.specs.declared.dialect.Dialect.{Dialect}
use Rattle.mps_stores.specs.Stores.{number_in}
use Rattle.mps_assembly.specs.declared.assembly.Parts.{Parts}
use Rattle.mps_assembly.specs.declared.assembly.Definitions.{Definitions}

-- each part tells what the cards say
pub record AreOf (dialect : Dialect) (cards : List Card) (parts : Parts) : Type 0 where
  pub rows : parts.rows.names.now ≡ row_names cards
  pub kinds : parts.rows.kinds.now ≡ row_kinds cards
  pub sides : (i : ℕ) → slice_index_or parts.rows.right_sides.now i None ≡ side_of dialect cards i
  pub ranges : (i : ℕ) → slice_index_or parts.rows.ranges.now i None ≡ range_of dialect cards i
  pub columns : parts.columns.names.now ≡ column_names cards
  pub entries : (j i : ℕ) → number_in parts.entries.now i j ≡ number_at dialect cards j i
  pub lowers : (j : ℕ) → slice_index_or parts.columns.lowers.now j None ≡ lower_of dialect cards j
  pub uppers : (j : ℕ) → slice_index_or parts.columns.uppers.now j None ≡ upper_of dialect cards j
  pub wholes : (j : ℕ) → slice_index_or parts.columns.wholes.now j false ≡ is_whole dialect cards j
  pub semis : (j : ℕ) → slice_index_or parts.columns.semis.now j false ≡ is_semi dialect cards j
  pub semi_uppers : (j : ℕ) → slice_index_or parts.columns.semi_uppers.now j None ≡ semi_upper_of dialect cards j

-- the objective, the rows and the columns are those of the cards
pub record AreDefined (dialect : Dialect) (cards : List Card) (found : Definitions) : Type 0 where
  pub objective : found.objective ≡ field (row_names cards) (objective_place cards)
  pub constant : found.constant ≡ neg_ℚ (right_side dialect cards (objective_place cards))
  pub rows : found.rows.items ≡ row_defs dialect cards (length (row_names cards))
  pub columns : found.columns.items ≡ column_defs dialect cards (length (column_names cards))
