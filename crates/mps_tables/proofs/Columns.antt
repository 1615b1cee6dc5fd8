-- A column that is not named yet has no numbers.
use Rattle.std.proofs.Common.{◌≡◌, ◌≤◌, ◌==◌, ℕ, ◌+◌, List, [], ◌∷◌, ◌++◌, Bool, true, false, Option, Some, None, refl, sym, ap, ◌∙◌, arith, length, length-append}
use Rattle.std.specs.Prelude.{unwrap_or, is_some, if◌then◌else◌}
use Rattle.std.proofs.lemmas.Bool.{ne_eqb}
use Rattle.names.specs.Names.{place}
use Rattle.mps_profile.specs.Texts.{Text}
use Rattle.mps_profile.specs.Cards.{Pair, Card, RowCard, MarkerCard, ColumnCard, SideCard, RangeCard, ValuedCard, BareCard, UnknownCard}
use Rattle.mps_profile.specs.Rows.{row_names, pairs_value}
use Rattle.mps_profile.specs.Columns.{column_names, column_place, number_at}
use Rattle.mps_profile.specs.CardFaults.{at_place, has_number}
use Rattle.mps_profile.specs.declared.dialect.Dialect.{Dialect}
use Rattle.mps_stores.specs.Stores.{number_in}
use Rattle.mps_tables.specs.Tables.{Holds}
use Rattle.mps_tables.specs.declared.tables.Tables.{Tables}
use Rattle.mps_tables.proofs.Places.{within}

-- what a card adds to the columns
record IsPast (name : Text) (names : List Text) (j : ℕ) : Type 0 where
  pub other : (column_place name names == j) ≡ false
  pub before : length names ≤ j

past_joined : (known : Option ℕ) (name : Text) (names : List Text) (j : ℕ) → place name names ≡ known
    → length (if is_some known then names else names ++ name ∷ []) ≤ j → IsPast name names j
past_joined None name names j here past =
    let long : length (names ++ name ∷ []) ≡ length names + 1 = length-append names (name ∷ []) in
    record {
      other = ap (λ (known : Option ℕ). unwrap_or known (length names) == j) here ∙ ne_eqb (length names) j (λ same. omega (arith, same, past, long));
      before = omega (arith, past, long);
    }
past_joined (Some k) name names j here past =
    record {
      other = ap (λ (known : Option ℕ). unwrap_or known (length names) == j) here ∙ ne_eqb k j (λ same. omega (arith, same, past, within name names k here));
      before = past;
    }

pub past_columns : (dialect : Dialect) (cards : List Card) (j i : ℕ) → length (column_names cards) ≤ j → number_at dialect cards j i ≡ None
past_columns dialect [] j i past = refl
past_columns dialect (ColumnCard name pairs ∷ before) j i past =
    let beyond : IsPast name (column_names before) j = past_joined (place name (column_names before)) name (column_names before) j refl past in
    ap (λ (here : Bool). if here then pairs_value dialect (row_names before) i pairs (number_at dialect before j i) else number_at dialect before j i) beyond.other
    ∙ past_columns dialect before j i beyond.before
past_columns dialect (RowCard kind name ∷ before) j i past = past_columns dialect before j i past
past_columns dialect (MarkerCard word ∷ before) j i past = past_columns dialect before j i past
past_columns dialect (SideCard set pairs ∷ before) j i past = past_columns dialect before j i past
past_columns dialect (RangeCard set pairs ∷ before) j i past = past_columns dialect before j i past
past_columns dialect (ValuedCard set kind column number ∷ before) j i past = past_columns dialect before j i past
past_columns dialect (BareCard set kind column ∷ before) j i past = past_columns dialect before j i past
past_columns dialect (UnknownCard ∷ before) j i past = past_columns dialect before j i past

named_at : (known : Option ℕ) (dialect : Dialect) (cards : List Card) (i : ℕ)
    → at_place (λ j. is_some (number_at dialect cards j i)) known ≡ is_some (number_at dialect cards (unwrap_or known (length (column_names cards))) i)
named_at None dialect cards i = ap is_some (sym (past_columns dialect cards (length (column_names cards)) i (omega arith)))
named_at (Some j) dialect cards i = refl

-- whether a card names a column and a row again is whether there is a number at the column's place
pub named_again : (dialect : Dialect) (cards : List Card) (name : Text) (pair : Pair) (i : ℕ) → place pair.row (row_names cards) ≡ Some i
    → has_number dialect cards name pair ≡ is_some (number_at dialect cards (column_place name (column_names cards)) i)
named_again dialect cards name pair i here =
    ap (λ (row : Option ℕ). at_place (λ j. at_place (λ i. is_some (number_at dialect cards j i)) row) (place name (column_names cards))) here
    ∙ named_at (place name (column_names cards)) dialect cards i

-- a number at the column's place and a row's says that a card names both again
pub named_here : (cards : List Card) (tables : Tables) (name : Text) (pair : Pair) (row column : ℕ) → Holds tables.dialect cards tables
    → Some row ≡ place pair.row tables.rows → column ≡ column_place name tables.columns → true ≡ is_some (number_in tables.entries row column)
    → has_number tables.dialect cards name pair ≡ true
named_here cards tables name pair row column has here there full =
    named_again tables.dialect cards name pair row (ap (place pair.row) (sym has.rows) ∙ sym here)
    ∙ ap is_some (sym (has.entries (column_place name (column_names cards)) row))
    ∙ ap (λ (names : List Text). is_some (number_in tables.entries row (column_place name names))) (sym has.columns)
    ∙ ap (λ (k : ℕ). is_some (number_in tables.entries row k)) (sym there) ∙ sym full
