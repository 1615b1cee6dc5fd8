-- What a reader holds after some tokens, of which the nearest stands first.
use Rattle.std.specs.Prelude.{◌≡◌, ℕ, pos, List, reverse, length, None, Some}
use Rattle.fractions.specs.Number.{of_ℤ}
use Rattle.lp_model.specs.declared.terms.Term.{Term}
use Rattle.mps_profile.specs.Program.{rows_below, terms_below}
use Rattle.opb_text.specs.Words.{Text}
use Rattle.opb_text.specs.Tokens.{Token}
use Rattle.opb_text.specs.Statements.{last_number, negated_numbers, open_row, open_terms, row_kinds}
use Rattle.opb_text.specs.Columns.{coefficient, column_names, constant as cost_constant, right_side}
use Rattle.opb_text.specs.Program.{row_names}
use Rattle.opb_text.specs.Reading.{ends_in_literal, place_of}
use Rattle.opb_columns.specs.Holding.{Hold}
use Rattle.opb_columns.specs.declared.columns.Columns.{Columns}
use Rattle.opb_reader.specs.Shapes.{IsShaped}
use Rattle.opb_reader.specs.declared.rows.Rows.{Rows}
use Rattle.opb_reader.specs.declared.reader.Reader.{Reader}

-- the rows that ended, and what is read of the one that is open
pub record HoldRows (tokens : List Token) (held : Rows) : Type 0 where
  pub kinds : held.kinds.items ≡ row_kinds tokens
  pub rows : held.rows.items ≡ rows_below (row_names (open_row tokens)) (row_kinds tokens) (λ i. of_ℤ (right_side tokens i)) (λ i. None) (open_row tokens)
  pub current : held.current ≡ open_row tokens
  pub constant : held.constant ≡ cost_constant tokens
  pub negated : negated_numbers tokens ≡ reverse held.negated.items

-- the terms of a column, by its name, in the rows that ended
abbrev pub entries_in : List Token → Text → List Term
entries_in tokens name = terms_below (row_kinds tokens) (λ i. of_ℤ (coefficient tokens i name)) (open_row tokens)

abbrev pub HoldColumns : List Token → Columns → Type 0
HoldColumns tokens columns = Hold (column_names tokens) (λ name. coefficient tokens 0 name) (λ name. entries_in tokens name) (open_terms tokens) columns

-- no statement has ended
abbrev pub IsSilent : List Token → Type 0
IsSilent tokens = (i : ℕ) (name : Text) → coefficient tokens i name ≡ pos 0

pub record Holds (tokens : List Token) (reader : Reader) : Type 0 where
  pub place : place_of tokens ≡ Some reader.place
  pub shape : IsShaped reader.place (open_row tokens) (length (row_kinds tokens)) (IsSilent tokens)
  pub literal : reader.after_literal ≡ ends_in_literal tokens
  pub number : reader.number ≡ last_number tokens
  pub rows : HoldRows tokens reader.rows
  pub columns : HoldColumns tokens reader.columns
