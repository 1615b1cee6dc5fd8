-- What cards without a fault say of columns by places agrees with what they say by names.
use Rattle.std.proofs.Common.{◌≡◌, ℕ, ◌<◌, List, [], ◌∷◌, length, Bool, true, false, cond, Option, Some, None, refl, ap, ◌∙◌, arith}
use Rattle.std.specs.Prelude.{is_none, ◌==◌, ◌&&◌, ◌||◌}
use Rattle.std.specs.Str.{bytes_eq}
use Rattle.fractions.specs.Number.{Number}
use Rattle.names.specs.Names.{place}
use Rattle.mps_profile.specs.Texts.{Text, field}
use Rattle.mps_profile.specs.Cards.{Card, RowCard, MarkerCard, ColumnCard, SideCard, RangeCard, ValuedCard, BareCard, UnknownCard}
use Rattle.mps_profile.specs.Bounds.{bare_change}
use Rattle.mps_profile.specs.Sets.{counts, bound_set}
use Rattle.mps_profile.specs.Rows.{row_names, is_at, pairs_value}
use Rattle.mps_profile.specs.Columns.{column_names, column_place, number_at, in_run, change_on, lower_in, upper_in, makes_whole, or_before, lower_of, upper_of, is_whole, is_semi, last_kind, makes_semi, semi_upper_in, semi_upper_of}
use Rattle.mps_profile.specs.declared.dialect.Dialect.{Dialect}
use Rattle.mps_profile.specs.declared.bounds.Change.{Change}
use Rattle.mps_laws.specs.Faultless.{IsFaultless}
use Rattle.mps_named.specs.Named.{pairs_named, number_named, lower_named, upper_named, whole_named, RowIsNamed, ColumnIsNamed, semi_named, semi_upper_named}
use Rattle.mps_named.proofs.CardSense.{sound}
use Rattle.mps_named.proofs.Agreement.{IsNumbered, joined-numbered, Agree, agree_push, agree_step, agree_joined}
use Rattle.mps_named.proofs.RowAgreement.{is_new, rows-numbered, kinds-agree, pairs-agree, sides-agree, ranges-agree}

-- the names of columns differ
pub columns-numbered : (cards : List Card) → IsNumbered (column_names cards)
columns-numbered [] = λ i lt. absurd (omega (arith, lt))
columns-numbered (RowCard kind name ∷ before) = columns-numbered before
columns-numbered (MarkerCard word ∷ before) = columns-numbered before
columns-numbered (ColumnCard name pairs ∷ before) = joined-numbered (column_names before) name (columns-numbered before)
columns-numbered (SideCard set pairs ∷ before) = columns-numbered before
columns-numbered (RangeCard set pairs ∷ before) = columns-numbered before
columns-numbered (ValuedCard set kind column number ∷ before) = columns-numbered before
columns-numbered (BareCard set kind column ∷ before) = columns-numbered before
columns-numbered (UnknownCard ∷ before) = columns-numbered before

-- ---- numbers
-- the number at the place of a column and the name of a row
abbrev pub number_beside : Dialect → List Card → ℕ → Text → Option Number
number_beside dialect [] j row = None
number_beside dialect (ColumnCard name pairs ∷ before) j row =
    cond (column_place name (column_names before) == j) (pairs_named dialect row pairs (number_beside dialect before j row)) (number_beside dialect before j row)
number_beside dialect (card ∷ before) j row = number_beside dialect before j row

pub numbers-of_rows : (dialect : Dialect) (cards : List Card) (j : ℕ) → IsFaultless dialect cards → Agree None (row_names cards) (λ i. number_at dialect cards j i) (λ row. number_beside dialect cards j row)
numbers-of_rows dialect [] j h = record { within = λ i lt. refl; past = λ i l. refl; unknown = λ m l. refl }
numbers-of_rows dialect (RowCard kind name ∷ before) j h =
    agree_push None (row_names before) (λ i. number_at dialect before j i) (λ m. number_beside dialect before j m) name (is_new _ (sound dialect before (RowCard kind name) h.0).row_again) (numbers-of_rows dialect before j h.1)
numbers-of_rows dialect (MarkerCard word ∷ before) j h = numbers-of_rows dialect before j h.1
numbers-of_rows dialect (ColumnCard name pairs ∷ before) j h = by (column_place name (column_names before) == j) (numbers-of_rows dialect before j h.1)
  where
    by : (b : Bool) → Agree None (row_names before) (λ i. number_at dialect before j i) (λ m. number_beside dialect before j m)
        → Agree None (row_names before) (λ i. cond b (pairs_value dialect (row_names before) i pairs (number_at dialect before j i)) (number_at dialect before j i)) (λ m. cond b (pairs_named dialect m pairs (number_beside dialect before j m)) (number_beside dialect before j m))
    by true a =
        pairs-agree dialect (row_names before) (λ i. number_at dialect before j i) (λ m. number_beside dialect before j m) pairs (rows-numbered dialect before h.1)
        (sound dialect before (ColumnCard name pairs) h.0).unknown_row a
    by false a = a
numbers-of_rows dialect (SideCard set pairs ∷ before) j h = numbers-of_rows dialect before j h.1
numbers-of_rows dialect (RangeCard set pairs ∷ before) j h = numbers-of_rows dialect before j h.1
numbers-of_rows dialect (ValuedCard set kind column number ∷ before) j h = numbers-of_rows dialect before j h.1
numbers-of_rows dialect (BareCard set kind column ∷ before) j h = numbers-of_rows dialect before j h.1
numbers-of_rows dialect (UnknownCard ∷ before) j h = numbers-of_rows dialect before j h.1

pub numbers-of_columns : (dialect : Dialect) (cards : List Card) (row : Text) → Agree None (column_names cards) (λ j. number_beside dialect cards j row) (λ column. number_named dialect cards column row)
numbers-of_columns dialect [] row = record { within = λ i lt. refl; past = λ i l. refl; unknown = λ m l. refl }
numbers-of_columns dialect (RowCard kind name ∷ before) row = numbers-of_columns dialect before row
numbers-of_columns dialect (MarkerCard word ∷ before) row = numbers-of_columns dialect before row
numbers-of_columns dialect (ColumnCard name pairs ∷ before) row =
    agree_joined None (column_names before) (λ j. number_beside dialect before j row) (λ m. number_named dialect before m row) (λ b y. cond b (pairs_named dialect row pairs y) y) name (λ y. refl)
    (columns-numbered before) (numbers-of_columns dialect before row)
numbers-of_columns dialect (SideCard set pairs ∷ before) row = numbers-of_columns dialect before row
numbers-of_columns dialect (RangeCard set pairs ∷ before) row = numbers-of_columns dialect before row
numbers-of_columns dialect (ValuedCard set kind column number ∷ before) row = numbers-of_columns dialect before row
numbers-of_columns dialect (BareCard set kind column ∷ before) row = numbers-of_columns dialect before row
numbers-of_columns dialect (UnknownCard ∷ before) row = numbers-of_columns dialect before row

-- ---- bounds
-- what a card of BOUNDS does to a word
bound-agrees : {A : Type 0} (nothing : A) (names : List Text) (at : ℕ → A) (named : Text → A) (g : Option Change → A → A) (c : Bool) (column : Text) (change : Option Change) → ((y : A) → g None y ≡ y)
    → IsNumbered names → (c && is_none (place column names)) ≡ false → Agree nothing names at named
    → Agree nothing names (λ j. g (cond (c && is_at (place column names) j) change None) (at j)) (λ m. g (cond (c && bytes_eq column m) change None) (named m))
bound-agrees nothing names at named g true column change idle each known a =
    agree_step nothing names at named (λ (x : Unit {0}) b y. g (cond b change None) y) (λ i. tt) (λ m. tt) column (place column names) (λ x y. idle y) (λ i lt. refl) each refl known a
bound-agrees nothing names at named g false column change idle each known a = record {
  within = λ i lt. ap (g None) (a.within i lt);
  past = λ i h. idle (at i) ∙ a.past i h;
  unknown = λ m h. idle (named m) ∙ a.unknown m h;
}

lowers-agree : (dialect : Dialect) (cards : List Card) → IsFaultless dialect cards → Agree None (column_names cards) (λ j. lower_of dialect cards j) (λ column. lower_named dialect cards column)
lowers-agree dialect [] h = record { within = λ i lt. refl; past = λ i l. refl; unknown = λ m l. refl }
lowers-agree dialect (RowCard kind name ∷ before) h = lowers-agree dialect before h.1
lowers-agree dialect (MarkerCard word ∷ before) h = lowers-agree dialect before h.1
lowers-agree dialect (ColumnCard name pairs ∷ before) h =
    agree_joined None (column_names before) (λ j. lower_of dialect before j) (λ m. lower_named dialect before m) (λ b y. y) name (λ y. refl) (columns-numbered before) (lowers-agree dialect before h.1)
lowers-agree dialect (SideCard set pairs ∷ before) h = lowers-agree dialect before h.1
lowers-agree dialect (RangeCard set pairs ∷ before) h = lowers-agree dialect before h.1
lowers-agree dialect (ValuedCard set kind column number ∷ before) h =
    bound-agrees None (column_names before) (λ j. lower_of dialect before j) (λ m. lower_named dialect before m) (λ change y. or_before (lower_in change) y) (counts (bound_set before) set) column (change_on dialect kind number)
    (λ y. refl) (columns-numbered before) (sound dialect before (ValuedCard set kind column number) h.0).unknown_column (lowers-agree dialect before h.1)
lowers-agree dialect (BareCard set kind column ∷ before) h =
    bound-agrees None (column_names before) (λ j. lower_of dialect before j) (λ m. lower_named dialect before m) (λ change y. or_before (lower_in change) y) (counts (bound_set before) set) column (Some (bare_change kind))
    (λ y. refl) (columns-numbered before) (sound dialect before (BareCard set kind column) h.0).unknown_column (lowers-agree dialect before h.1)
lowers-agree dialect (UnknownCard ∷ before) h = lowers-agree dialect before h.1

uppers-agree : (dialect : Dialect) (cards : List Card) → IsFaultless dialect cards → Agree None (column_names cards) (λ j. upper_of dialect cards j) (λ column. upper_named dialect cards column)
uppers-agree dialect [] h = record { within = λ i lt. refl; past = λ i l. refl; unknown = λ m l. refl }
uppers-agree dialect (RowCard kind name ∷ before) h = uppers-agree dialect before h.1
uppers-agree dialect (MarkerCard word ∷ before) h = uppers-agree dialect before h.1
uppers-agree dialect (ColumnCard name pairs ∷ before) h =
    agree_joined None (column_names before) (λ j. upper_of dialect before j) (λ m. upper_named dialect before m) (λ b y. y) name (λ y. refl) (columns-numbered before) (uppers-agree dialect before h.1)
uppers-agree dialect (SideCard set pairs ∷ before) h = uppers-agree dialect before h.1
uppers-agree dialect (RangeCard set pairs ∷ before) h = uppers-agree dialect before h.1
uppers-agree dialect (ValuedCard set kind column number ∷ before) h =
    bound-agrees None (column_names before) (λ j. upper_of dialect before j) (λ m. upper_named dialect before m) (λ change y. or_before (upper_in change) y) (counts (bound_set before) set) column (change_on dialect kind number)
    (λ y. refl) (columns-numbered before) (sound dialect before (ValuedCard set kind column number) h.0).unknown_column (uppers-agree dialect before h.1)
uppers-agree dialect (BareCard set kind column ∷ before) h =
    bound-agrees None (column_names before) (λ j. upper_of dialect before j) (λ m. upper_named dialect before m) (λ change y. or_before (upper_in change) y) (counts (bound_set before) set) column (Some (bare_change kind))
    (λ y. refl) (columns-numbered before) (sound dialect before (BareCard set kind column) h.0).unknown_column (uppers-agree dialect before h.1)
uppers-agree dialect (UnknownCard ∷ before) h = uppers-agree dialect before h.1

-- ---- whole columns
no_run : (run : Bool) (y : Bool) → ((run && false) || false || y) ≡ y
no_run true y = refl
no_run false y = refl

wholes-agree : (dialect : Dialect) (cards : List Card) → IsFaultless dialect cards → Agree false (column_names cards) (λ j. is_whole dialect cards j) (λ column. whole_named dialect cards column)
wholes-agree dialect [] h = record { within = λ i lt. refl; past = λ i l. refl; unknown = λ m l. refl }
wholes-agree dialect (RowCard kind name ∷ before) h = wholes-agree dialect before h.1
wholes-agree dialect (MarkerCard word ∷ before) h = wholes-agree dialect before h.1
wholes-agree dialect (ColumnCard name pairs ∷ before) h =
    agree_joined false (column_names before) (λ j. is_whole dialect before j) (λ m. whole_named dialect before m) (λ b y. (in_run before && b) || false || y) name (no_run (in_run before)) (columns-numbered before) (wholes-agree dialect before h.1)
wholes-agree dialect (SideCard set pairs ∷ before) h = wholes-agree dialect before h.1
wholes-agree dialect (RangeCard set pairs ∷ before) h = wholes-agree dialect before h.1
wholes-agree dialect (ValuedCard set kind column number ∷ before) h =
    bound-agrees false (column_names before) (λ j. is_whole dialect before j) (λ m. whole_named dialect before m) (λ change y. false || makes_whole change || y) (counts (bound_set before) set) column (change_on dialect kind number)
    (λ y. refl) (columns-numbered before) (sound dialect before (ValuedCard set kind column number) h.0).unknown_column (wholes-agree dialect before h.1)
wholes-agree dialect (BareCard set kind column ∷ before) h =
    bound-agrees false (column_names before) (λ j. is_whole dialect before j) (λ m. whole_named dialect before m) (λ change y. false || makes_whole change || y) (counts (bound_set before) set) column (Some (bare_change kind))
    (λ y. refl) (columns-numbered before) (sound dialect before (BareCard set kind column) h.0).unknown_column (wholes-agree dialect before h.1)
wholes-agree dialect (UnknownCard ∷ before) h = wholes-agree dialect before h.1

-- ---- semi-continuous columns
semis-agree : (dialect : Dialect) (cards : List Card) → IsFaultless dialect cards → Agree false (column_names cards) (λ j. is_semi dialect cards j) (λ column. semi_named dialect cards column)
semis-agree dialect [] h = record { within = λ i lt. refl; past = λ i l. refl; unknown = λ m l. refl }
semis-agree dialect (RowCard kind name ∷ before) h = semis-agree dialect before h.1
semis-agree dialect (MarkerCard word ∷ before) h = semis-agree dialect before h.1
semis-agree dialect (ColumnCard name pairs ∷ before) h =
    agree_joined false (column_names before) (λ j. is_semi dialect before j) (λ m. semi_named dialect before m) (λ b y. y) name (λ y. refl) (columns-numbered before) (semis-agree dialect before h.1)
semis-agree dialect (SideCard set pairs ∷ before) h = semis-agree dialect before h.1
semis-agree dialect (RangeCard set pairs ∷ before) h = semis-agree dialect before h.1
semis-agree dialect (ValuedCard set kind column number ∷ before) h =
    bound-agrees false (column_names before) (λ j. is_semi dialect before j) (λ m. semi_named dialect before m) (λ change y. makes_semi change || y) (counts (bound_set before) set) column (change_on dialect kind number)
    (λ y. refl) (columns-numbered before) (sound dialect before (ValuedCard set kind column number) h.0).unknown_column (semis-agree dialect before h.1)
semis-agree dialect (BareCard set kind column ∷ before) h =
    bound-agrees false (column_names before) (λ j. is_semi dialect before j) (λ m. semi_named dialect before m) (λ change y. makes_semi change || y) (counts (bound_set before) set) column (Some (bare_change kind))
    (λ y. refl) (columns-numbered before) (sound dialect before (BareCard set kind column) h.0).unknown_column (semis-agree dialect before h.1)
semis-agree dialect (UnknownCard ∷ before) h = semis-agree dialect before h.1

semi_uppers-agree : (dialect : Dialect) (cards : List Card) → IsFaultless dialect cards → Agree None (column_names cards) (λ j. semi_upper_of dialect cards j) (λ column. semi_upper_named dialect cards column)
semi_uppers-agree dialect [] h = record { within = λ i lt. refl; past = λ i l. refl; unknown = λ m l. refl }
semi_uppers-agree dialect (RowCard kind name ∷ before) h = semi_uppers-agree dialect before h.1
semi_uppers-agree dialect (MarkerCard word ∷ before) h = semi_uppers-agree dialect before h.1
semi_uppers-agree dialect (ColumnCard name pairs ∷ before) h =
    agree_joined None (column_names before) (λ j. semi_upper_of dialect before j) (λ m. semi_upper_named dialect before m) (λ b y. y) name (λ y. refl) (columns-numbered before) (semi_uppers-agree dialect before h.1)
semi_uppers-agree dialect (SideCard set pairs ∷ before) h = semi_uppers-agree dialect before h.1
semi_uppers-agree dialect (RangeCard set pairs ∷ before) h = semi_uppers-agree dialect before h.1
semi_uppers-agree dialect (ValuedCard set kind column number ∷ before) h =
    bound-agrees None (column_names before) (λ j. semi_upper_of dialect before j) (λ m. semi_upper_named dialect before m) (λ change y. last_kind (semi_upper_in change) y) (counts (bound_set before) set) column (change_on dialect kind number)
    (λ y. refl) (columns-numbered before) (sound dialect before (ValuedCard set kind column number) h.0).unknown_column (semi_uppers-agree dialect before h.1)
semi_uppers-agree dialect (BareCard set kind column ∷ before) h =
    bound-agrees None (column_names before) (λ j. semi_upper_of dialect before j) (λ m. semi_upper_named dialect before m) (λ change y. last_kind (semi_upper_in change) y) (counts (bound_set before) set) column (Some (bare_change kind))
    (λ y. refl) (columns-numbered before) (sound dialect before (BareCard set kind column) h.0).unknown_column (semi_uppers-agree dialect before h.1)
semi_uppers-agree dialect (UnknownCard ∷ before) h = semi_uppers-agree dialect before h.1

-- ---- all words
pub rows-named : (dialect : Dialect) (cards : List Card) (i : ℕ) → IsFaultless dialect cards → i < length (row_names cards) → RowIsNamed dialect cards i
rows-named dialect cards i h lt = record {
  kind = (kinds-agree dialect cards h).within i lt;
  side = (sides-agree dialect cards h).within i lt;
  range = (ranges-agree dialect cards h).within i lt;
}

pub columns-named : (dialect : Dialect) (cards : List Card) (j : ℕ) → IsFaultless dialect cards → j < length (column_names cards) → ColumnIsNamed dialect cards j
columns-named dialect cards j h lt = record {
  lower = (lowers-agree dialect cards h).within j lt;
  upper = (uppers-agree dialect cards h).within j lt;
  whole = (wholes-agree dialect cards h).within j lt;
  semi = (semis-agree dialect cards h).within j lt;
  semi_upper = (semi_uppers-agree dialect cards h).within j lt;
  numbers = λ i l. (numbers-of_rows dialect cards j h).within i l ∙ (numbers-of_columns dialect cards (field (row_names cards) i)).within j lt;
}
