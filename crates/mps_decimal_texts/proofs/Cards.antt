-- Cards that have no fault as cards of decimal numbers say the same where fractions are taken.
use Rattle.std.proofs.Common.{◌≡◌, ◌==◌, ℕ, Bool, true, false, not, List, [], ◌∷◌, Option, Some, None, Result, Ok, Err, refl, sym, ap, ap₂, ◌∙◌, true≢false, is_some, is_none}
use Rattle.std.specs.Prelude.{◌&&◌, ◌||◌, unwrap_or, if◌then◌else◌}
use Rattle.std.specs.Str.{bytes_eq}
use Rattle.fractions.specs.Number.{Number, ◌+ℚ◌, neg_ℚ, zero_ℚ}
use Rattle.fractions.specs.Compare.{lt_ℚ}
use Rattle.fractions.specs.declared.Numbers.TheVariants.{Decimal, Fractions}
use Rattle.fractions.specs.Places.{is_decimal}
use Rattle.names.specs.Names.{place}
use Rattle.number_texts.specs.declared.reading.ReadNumber.{ReadNumber}
use Rattle.number_texts.specs.declared.reading.ReadNumber.TheVariants.{NotNumber, NumberPast}
use Rattle.mps_profile.specs.CardFaults.{at_place, bad_limit, bad_pair, card_fault, first_of, has_bad_number, has_bad_row_type, has_past_number, has_unknown_type, is_bad, is_bad_marker, is_doubled, is_past, makes_past, names_entry_again, names_row_again, names_unknown_column, names_unknown_row, past_pair, past_range, past_ranges, past_side, ranges_free_row, splits_column}
use Rattle.mps_profile.specs.Cards.{BareCard, Card, ColumnCard, either, MarkerCard, One, Pair, Pairs, RangeCard, RowCard, SideCard, Two, UnknownCard, ValuedCard}
use Rattle.mps_profile.specs.Columns.{change_at, change_in, column_names, column_place, is_semi, is_whole, last_kind, lower_in, lower_of, makes_semi, makes_whole, number_at, or_before, semi_upper_in, semi_upper_of, stands_in_run, upper_in, upper_of}
use Rattle.mps_profile.specs.Numerals.{limit_on, number_on}
use Rattle.mps_profile.specs.Rows.{interval_in, is_at, names_row, pair_range, pair_value, pairs_range, pairs_value, range_of, right_side, row_kind, row_names, side_of, value_in}
use Rattle.mps_profile.specs.Sets.{bound_set, counts, range_set, side_set}
use Rattle.mps_profile.specs.Sides.{is_past_range, is_past_sum, magnitude, sum_fits}
use Rattle.mps_profile.specs.Texts.{Text}
use Rattle.mps_profile.specs.declared.bounds.Change.{Change}
use Rattle.mps_profile.specs.declared.bounds.Limit.{Limit}
use Rattle.mps_profile.specs.declared.bounds.Valued.{Valued}
use Rattle.mps_profile.specs.declared.dialect.Format.{Format}
use Rattle.mps_profile.specs.declared.faults.MpsFaultKind.{MpsFaultKind}
use Rattle.mps_profile.specs.declared.faults.MpsFaultKind as faults
use Rattle.mps_profile.specs.declared.faults.MpsFaultKind.TheVariants.{BadBoundType, BadMarker, BadNumber, BadRowType, DuplicateEntry, DuplicateName, RangeOnFree, SplitColumn, UnknownColumn, UnknownRow}
use Rattle.mps_profile.specs.declared.row_kinds.Interval.{Interval}
use Rattle.mps_profile.specs.declared.row_kinds.RowKind.{RowKind}
use Rattle.mps_profile.specs.declared.row_kinds.RowKind as kinds
use Rattle.mps_laws.specs.Faultless.{IsFaultless}
use Rattle.mps_decimal_texts.proofs.Numbers.{decimal, fraction, limit_same, number_same}

-- ---- tests
either_false : (a b : Bool) → (a || b) ≡ false → (a ≡ false) × (b ≡ false)
either_false true b e = absurd (true≢false e)
either_false false b e = (refl, e)

three_false : (a b c : Bool) → (a || b || c) ≡ false → (a ≡ false) × (b ≡ false) × (c ≡ false)
three_false true true true e = absurd (true≢false e)
three_false true true false e = absurd (true≢false e)
three_false true false true e = absurd (true≢false e)
three_false true false false e = absurd (true≢false e)
three_false false true true e = absurd (true≢false e)
three_false false true false e = absurd (true≢false e)
three_false false false true e = absurd (true≢false e)
three_false false false false e = (refl, refl, refl)

three_are : (a b c : Bool) → a ≡ false → b ≡ false → c ≡ false → (a || b || c) ≡ false
three_are a b c e f g = rw (e, f, g) refl

counted_false : (a b : Bool) → (a && b) ≡ false → a ≡ true → b ≡ false
counted_false true b e on = e
counted_false false b e on = absurd (true≢false (sym on))

both_false : (a b c : Bool) → (b ≡ false → c ≡ false) → (a && b) ≡ false → (a && c) ≡ false
both_false true b c later e = later e
both_false false b c later e = refl

first_none : (b : Bool) (fault : MpsFaultKind) (more : List (Bool × MpsFaultKind)) → first_of ((b, fault) ∷ more) ≡ None → (b ≡ false) × (first_of more ≡ None)
first_none true fault more e = absurd (let f = e in cc)
first_none false fault more e = (refl, e)

is_number : {T : Type 0} (r : Result T ReadNumber) → is_bad r ≡ false → is_past r ≡ false → (q : T) × (r ≡ Ok q)
is_number (Ok q) a b = (q, refl)
is_number (Err NotNumber) a b = absurd (true≢false a)
is_number (Err NumberPast) a b = absurd (true≢false b)

is_limit : (kind : Valued) (r : Result Limit ReadNumber) → bad_limit kind r ≡ false → is_past r ≡ false → (q : Limit) × (r ≡ Ok q)
is_limit kind (Ok q) a b = (q, refl)
is_limit kind (Err NotNumber) a b = absurd (true≢false a)
is_limit kind (Err NumberPast) a b = absurd (true≢false b)

sum_false : (p q : Number) → is_past_sum Decimal p q ≡ false → is_past_sum Fractions p q ≡ false
sum_false p q e = by (sum_fits p q) (is_decimal (p +ℚ q)) e
  where
    by : (a b : Bool) → (not a || not b) ≡ false → (not a || not true) ≡ false
    by true b h = refl
    by false b h = absurd (true≢false h)

range_false : (kind : RowKind) (b r : Number) → is_past_range Decimal kind b r ≡ false → is_past_range Fractions kind b r ≡ false
range_false kinds.TheVariants.Free b r e = refl
range_false kinds.TheVariants.AtMost b r e = sum_false b (neg_ℚ (magnitude r)) e
range_false kinds.TheVariants.AtLeast b r e = sum_false b (magnitude r) e
range_false kinds.TheVariants.Equal b r e = sum_false b (if lt_ℚ r zero_ℚ then neg_ℚ (magnitude r) else magnitude r) e

module _ (format : Format) where
  -- ---- what is read the same
  abbrev PairSame : Pair → Type 0
  PairSame pair = number_on (fraction format) pair.number ≡ number_on (decimal format) pair.number

  abbrev PairsSame : Pairs → Type 0
  PairsSame (One pair) = PairSame pair
  PairsSame (Two pair other) = PairSame pair × PairSame other

  -- what counts on a card
  abbrev Same : List Card → Card → Type 0
  Same before (RowCard kind name) = Unit {0}
  Same before (MarkerCard word) = Unit {0}
  Same before (ColumnCard name pairs) = PairsSame pairs
  Same before (SideCard set pairs) = counts (side_set before) set ≡ true → PairsSame pairs
  Same before (RangeCard set pairs) = counts (range_set before) set ≡ true → PairsSame pairs
  Same before (ValuedCard set kind column number) = counts (bound_set before) set ≡ true → limit_on (fraction format) number ≡ limit_on (decimal format) number
  Same before (BareCard set kind column) = Unit {0}
  Same before UnknownCard = Unit {0}

  abbrev pub AllSame : List Card → Type 0
  AllSame [] = Unit {0}
  AllSame (card ∷ before) = Same before card × AllSame before

  pair_same : (pair : Pair) → bad_pair (decimal format) pair ≡ false → past_pair (decimal format) pair ≡ false → PairSame pair
  pair_same pair a b = let n = is_number (number_on (decimal format) pair.number) a b in number_same format pair.number n.0 n.1 ∙ sym n.1

  pairs_same : (pairs : Pairs) → either (bad_pair (decimal format)) pairs ≡ false → either (past_pair (decimal format)) pairs ≡ false → PairsSame pairs
  pairs_same (One pair) a b = pair_same pair a b
  pairs_same (Two pair other) a b =
      let x = either_false (bad_pair (decimal format) pair) (bad_pair (decimal format) other) a in
      let y = either_false (past_pair (decimal format) pair) (past_pair (decimal format) other) b in
      (pair_same pair x.0 y.0, pair_same other x.1 y.1)

  ranges_same : (before : List Card) (pairs : Pairs) → either (bad_pair (decimal format)) pairs ≡ false → past_ranges (decimal format) before pairs ≡ false → PairsSame pairs
  ranges_same before (One pair) a b = pair_same pair a (either_false (past_pair (decimal format) pair) (makes_past (decimal format) before pair) b).0
  ranges_same before (Two pair other) a b =
      let x = either_false (bad_pair (decimal format) pair) (bad_pair (decimal format) other) a in
      let y = three_false (past_range (decimal format) before pair) (past_pair (decimal format) other) (not (bytes_eq pair.row other.row) && makes_past (decimal format) before other) b in
      (pair_same pair x.0 (either_false (past_pair (decimal format) pair) (makes_past (decimal format) before pair) y.0).0, pair_same other x.1 y.1)

  -- the tests behind those of numbers
  abbrev others : List Card → Card → Bool → List (Bool × MpsFaultKind)
  others before card again = (names_unknown_row before card, UnknownRow) ∷ (names_unknown_column before card, UnknownColumn)
      ∷ (names_row_again before card, DuplicateName) ∷ (again, DuplicateEntry) ∷ (splits_column before card, SplitColumn) ∷ (has_unknown_type card, BadBoundType)
      ∷ (is_bad_marker before card, BadMarker) ∷ (has_bad_row_type card, BadRowType) ∷ (ranges_free_row before card, RangeOnFree) ∷ []

  -- the two tests of numbers, of a card without a fault
  tests_false : (before : List Card) (card : Card) → card_fault (decimal format) before card ≡ None
      → (has_bad_number (decimal format) before card ≡ false) × (has_past_number (decimal format) before card ≡ false)
  tests_false before card sound =
      let rest = others before card (names_entry_again (decimal format) before card) in
      let a = first_none (has_bad_number (decimal format) before card) BadNumber ((has_past_number (decimal format) before card, faults.TheVariants.NumberPast) ∷ rest) sound in
      (a.0, (first_none (has_past_number (decimal format) before card) faults.TheVariants.NumberPast rest a.1).0)

  same_by : (before : List Card) (card : Card) → has_bad_number (decimal format) before card ≡ false → has_past_number (decimal format) before card ≡ false → Same before card
  same_by before (RowCard kind name) a b = tt
  same_by before (MarkerCard word) a b = tt
  same_by before (ColumnCard name pairs) a b = pairs_same pairs a b
  same_by before (SideCard set pairs) a b = λ on. pairs_same pairs (counted_false _ _ a on) (counted_false _ _ b on)
  same_by before (RangeCard set pairs) a b = λ on. ranges_same before pairs (counted_false _ _ a on) (counted_false _ _ b on)
  same_by before (ValuedCard set kind column number) a b = λ on.
      let n = is_limit kind (limit_on (decimal format) number) (counted_false _ _ a on) (counted_false _ _ b on) in limit_same format number n.0 n.1 ∙ sym n.1
  same_by before (BareCard set kind column) a b = tt
  same_by before UnknownCard a b = tt

  pub card_same : (before : List Card) (card : Card) → card_fault (decimal format) before card ≡ None → Same before card
  card_same before card sound = let t = tests_false before card sound in same_by before card t.0 t.1

  pub all_same : (cards : List Card) → IsFaultless (decimal format) cards → AllSame cards
  all_same [] h = tt
  all_same (card ∷ before) h = (card_same before card h.0, all_same before h.1)

  -- ---- rows
  value_same : (rows : List Text) (i : ℕ) (pair : Pair) (x y : Option Number) → PairSame pair → x ≡ y → pair_value (fraction format) rows i pair x ≡ pair_value (decimal format) rows i pair y
  value_same rows i pair x y same e = ap₂ (λ (r : Result Number ReadNumber) (z : Option Number). if names_row rows i pair then value_in r else z) same e

  values_same : (rows : List Text) (i : ℕ) (pairs : Pairs) (x y : Option Number) → PairsSame pairs → x ≡ y → pairs_value (fraction format) rows i pairs x ≡ pairs_value (decimal format) rows i pairs y
  values_same rows i (One pair) x y same e = value_same rows i pair x y same e
  values_same rows i (Two pair other) x y same e = value_same rows i other _ _ same.1 (value_same rows i pair x y same.0 e)

  pub side_same : (cards : List Card) → AllSame cards → (i : ℕ) → side_of (fraction format) cards i ≡ side_of (decimal format) cards i
  side_same [] h i = refl
  side_same (RowCard kind name ∷ before) h i = side_same before h.1 i
  side_same (MarkerCard word ∷ before) h i = side_same before h.1 i
  side_same (ColumnCard name pairs ∷ before) h i = side_same before h.1 i
  side_same (SideCard set pairs ∷ before) h i = by (counts (side_set before) set) refl (side_same before h.1 i)
    where
      by : (b : Bool) → counts (side_set before) set ≡ b → side_of (fraction format) before i ≡ side_of (decimal format) before i
          → (if b then pairs_value (fraction format) (row_names before) i pairs (side_of (fraction format) before i) else side_of (fraction format) before i)
          ≡ (if b then pairs_value (decimal format) (row_names before) i pairs (side_of (decimal format) before i) else side_of (decimal format) before i)
      by true on e = values_same (row_names before) i pairs _ _ (h.0 on) e
      by false on e = e
  side_same (RangeCard set pairs ∷ before) h i = side_same before h.1 i
  side_same (ValuedCard set kind column number ∷ before) h i = side_same before h.1 i
  side_same (BareCard set kind column ∷ before) h i = side_same before h.1 i
  side_same (UnknownCard ∷ before) h i = side_same before h.1 i

  right_same : (cards : List Card) → AllSame cards → (i : ℕ) → right_side (fraction format) cards i ≡ right_side (decimal format) cards i
  right_same cards h i = ap (λ (o : Option Number). unwrap_or o zero_ℚ) (side_same cards h i)

  interval_same : (before : List Card) (i : ℕ) (pair : Pair) (x y : Option Interval) → AllSame before → PairSame pair → x ≡ y → pair_range (fraction format) before i pair x ≡ pair_range (decimal format) before i pair y
  interval_same before i pair x y h same e =
      ap₂ (λ (o : Option Interval) (z : Option Interval). if names_row (row_names before) i pair then o else z)
      (ap₂ (λ (b : Number) (r : Result Number ReadNumber). interval_in (row_kind before i) b r) (right_same before h i) same) e

  intervals_same : (before : List Card) (i : ℕ) (pairs : Pairs) (x y : Option Interval) → AllSame before → PairsSame pairs → x ≡ y → pairs_range (fraction format) before i pairs x ≡ pairs_range (decimal format) before i pairs y
  intervals_same before i (One pair) x y h same e = interval_same before i pair x y h same e
  intervals_same before i (Two pair other) x y h same e = interval_same before i other _ _ h same.1 (interval_same before i pair x y h same.0 e)

  pub range_same : (cards : List Card) → AllSame cards → (i : ℕ) → range_of (fraction format) cards i ≡ range_of (decimal format) cards i
  range_same [] h i = refl
  range_same (RowCard kind name ∷ before) h i = range_same before h.1 i
  range_same (MarkerCard word ∷ before) h i = range_same before h.1 i
  range_same (ColumnCard name pairs ∷ before) h i = range_same before h.1 i
  range_same (SideCard set pairs ∷ before) h i = range_same before h.1 i
  range_same (RangeCard set pairs ∷ before) h i = by (counts (range_set before) set) refl (range_same before h.1 i)
    where
      by : (b : Bool) → counts (range_set before) set ≡ b → range_of (fraction format) before i ≡ range_of (decimal format) before i
          → (if b then pairs_range (fraction format) before i pairs (range_of (fraction format) before i) else range_of (fraction format) before i)
          ≡ (if b then pairs_range (decimal format) before i pairs (range_of (decimal format) before i) else range_of (decimal format) before i)
      by true on e = intervals_same before i pairs _ _ h.1 (h.0 on) e
      by false on e = e
  range_same (ValuedCard set kind column number ∷ before) h i = range_same before h.1 i
  range_same (BareCard set kind column ∷ before) h i = range_same before h.1 i
  range_same (UnknownCard ∷ before) h i = range_same before h.1 i

  -- ---- columns
  pub entry_same : (cards : List Card) → AllSame cards → (j i : ℕ) → number_at (fraction format) cards j i ≡ number_at (decimal format) cards j i
  entry_same [] h j i = refl
  entry_same (RowCard kind name ∷ before) h j i = entry_same before h.1 j i
  entry_same (MarkerCard word ∷ before) h j i = entry_same before h.1 j i
  entry_same (ColumnCard name pairs ∷ before) h j i = by (column_place name (column_names before) == j) (entry_same before h.1 j i)
    where
      by : (b : Bool) → number_at (fraction format) before j i ≡ number_at (decimal format) before j i
          → (if b then pairs_value (fraction format) (row_names before) i pairs (number_at (fraction format) before j i) else number_at (fraction format) before j i)
          ≡ (if b then pairs_value (decimal format) (row_names before) i pairs (number_at (decimal format) before j i) else number_at (decimal format) before j i)
      by true e = values_same (row_names before) i pairs _ _ h.0 e
      by false e = e
  entry_same (SideCard set pairs ∷ before) h j i = entry_same before h.1 j i
  entry_same (RangeCard set pairs ∷ before) h j i = entry_same before h.1 j i
  entry_same (ValuedCard set kind column number ∷ before) h j i = entry_same before h.1 j i
  entry_same (BareCard set kind column ∷ before) h j i = entry_same before h.1 j i
  entry_same (UnknownCard ∷ before) h j i = entry_same before h.1 j i

  change_same : (card : Card) (before : List Card) → Same before card → (j : ℕ) → change_at (fraction format) card before j ≡ change_at (decimal format) card before j
  change_same (RowCard kind name) before h j = refl
  change_same (MarkerCard word) before h j = refl
  change_same (ColumnCard name pairs) before h j = refl
  change_same (SideCard set pairs) before h j = refl
  change_same (RangeCard set pairs) before h j = refl
  change_same (ValuedCard set kind column number) before h j = by (counts (bound_set before) set) refl (is_at (place column (column_names before)) j)
    where
      by : (b : Bool) → counts (bound_set before) set ≡ b → (c : Bool)
          → (if b && c then change_in kind (limit_on (fraction format) number) else None) ≡ (if b && c then change_in kind (limit_on (decimal format) number) else None)
      by true on c = ap (λ (r : Result Limit ReadNumber). if true && c then change_in kind r else None) (h on)
      by false on c = refl
  change_same (BareCard set kind column) before h j = refl
  change_same UnknownCard before h j = refl

  pub lower_same : (cards : List Card) → AllSame cards → (j : ℕ) → lower_of (fraction format) cards j ≡ lower_of (decimal format) cards j
  lower_same [] h j = refl
  lower_same (card ∷ before) h j = ap₂ (λ (c : Option Change) (o : Option (Option Number)). or_before (lower_in c) o) (change_same card before h.0 j) (lower_same before h.1 j)

  pub upper_same : (cards : List Card) → AllSame cards → (j : ℕ) → upper_of (fraction format) cards j ≡ upper_of (decimal format) cards j
  upper_same [] h j = refl
  upper_same (card ∷ before) h j = ap₂ (λ (c : Option Change) (o : Option (Option Number)). or_before (upper_in c) o) (change_same card before h.0 j) (upper_same before h.1 j)

  pub semi_upper_same : (cards : List Card) → AllSame cards → (j : ℕ) → semi_upper_of (fraction format) cards j ≡ semi_upper_of (decimal format) cards j
  semi_upper_same [] h j = refl
  semi_upper_same (card ∷ before) h j = ap₂ (λ (c : Option Change) (o : Option Bool). last_kind (semi_upper_in c) o) (change_same card before h.0 j) (semi_upper_same before h.1 j)

  pub whole_same : (cards : List Card) → AllSame cards → (j : ℕ) → is_whole (fraction format) cards j ≡ is_whole (decimal format) cards j
  whole_same [] h j = refl
  whole_same (card ∷ before) h j = ap₂ (λ (c : Option Change) (b : Bool). stands_in_run card before j || makes_whole c || b) (change_same card before h.0 j) (whole_same before h.1 j)

  pub semi_same : (cards : List Card) → AllSame cards → (j : ℕ) → is_semi (fraction format) cards j ≡ is_semi (decimal format) cards j
  semi_same [] h j = refl
  semi_same (card ∷ before) h j = ap₂ (λ (c : Option Change) (b : Bool). makes_semi c || b) (change_same card before h.0 j) (semi_same before h.1 j)

  -- ---- faults
  either_same : (test : Result Number ReadNumber → Bool) (pairs : Pairs) → PairsSame pairs
      → either (λ pair. test (number_on (fraction format) pair.number)) pairs ≡ either (λ pair. test (number_on (decimal format) pair.number)) pairs
  either_same test (One pair) same = ap test same
  either_same test (Two pair other) same = ap₂ (λ (r s : Result Number ReadNumber). test r || test s) same.0 same.1

  bad_same : (before : List Card) (card : Card) → Same before card → has_bad_number (fraction format) before card ≡ has_bad_number (decimal format) before card
  bad_same before (RowCard kind name) h = refl
  bad_same before (MarkerCard word) h = refl
  bad_same before (ColumnCard name pairs) h = either_same is_bad pairs h
  bad_same before (SideCard set pairs) h = by (counts (side_set before) set) refl
    where
      by : (b : Bool) → counts (side_set before) set ≡ b → (b && either (bad_pair (fraction format)) pairs) ≡ (b && either (bad_pair (decimal format)) pairs)
      by true on = either_same is_bad pairs (h on)
      by false on = refl
  bad_same before (RangeCard set pairs) h = by (counts (range_set before) set) refl
    where
      by : (b : Bool) → counts (range_set before) set ≡ b → (b && either (bad_pair (fraction format)) pairs) ≡ (b && either (bad_pair (decimal format)) pairs)
      by true on = either_same is_bad pairs (h on)
      by false on = refl
  bad_same before (ValuedCard set kind column number) h = by (counts (bound_set before) set) refl
    where
      by : (b : Bool) → counts (bound_set before) set ≡ b → (b && bad_limit kind (limit_on (fraction format) number)) ≡ (b && bad_limit kind (limit_on (decimal format) number))
      by true on = ap (bad_limit kind) (h on)
      by false on = refl
  bad_same before (BareCard set kind column) h = refl
  bad_same before UnknownCard h = refl

  side_past : (before : List Card) (place : Option ℕ) (r : Result Number ReadNumber) → AllSame before → past_side (decimal format) before place r ≡ false → past_side (fraction format) before place r ≡ false
  side_past before None r h e = refl
  side_past before (Some i) (Err fault) h e = refl
  side_past before (Some i) (Ok q) h e =
      ap₂ (λ (o : Option Interval) (b : Number). is_none o && is_past_range Fractions (row_kind before i) b q) (range_same before h i) (right_same before h i)
      ∙ both_false (is_none (range_of (decimal format) before i)) _ _ (range_false (row_kind before i) (right_side (decimal format) before i) q) e

  makes_false : (before : List Card) (pair : Pair) → AllSame before → PairSame pair → makes_past (decimal format) before pair ≡ false → makes_past (fraction format) before pair ≡ false
  makes_false before pair h same e =
      ap (past_side (fraction format) before (place pair.row (row_names before))) same ∙ side_past before (place pair.row (row_names before)) (number_on (decimal format) pair.number) h e

  past_pair_same : (pair : Pair) → PairSame pair → past_pair (fraction format) pair ≡ past_pair (decimal format) pair
  past_pair_same pair same = ap is_past same

  range_past : (before : List Card) (pair : Pair) → AllSame before → PairSame pair → past_range (decimal format) before pair ≡ false → past_range (fraction format) before pair ≡ false
  range_past before pair h same e =
      let x = either_false (past_pair (decimal format) pair) (makes_past (decimal format) before pair) e in
      ap₂ (λ (a b : Bool). a || b) (past_pair_same pair same ∙ x.0) (makes_false before pair h same x.1)

  ranges_past : (before : List Card) (pairs : Pairs) → AllSame before → PairsSame pairs → past_ranges (decimal format) before pairs ≡ false → past_ranges (fraction format) before pairs ≡ false
  ranges_past before (One pair) h same e = range_past before pair h same e
  ranges_past before (Two pair other) h same e =
      let x = three_false (past_range (decimal format) before pair) (past_pair (decimal format) other) (not (bytes_eq pair.row other.row) && makes_past (decimal format) before other) e in
      three_are _ _ _ (range_past before pair h same.0 x.0) (past_pair_same other same.1 ∙ x.1)
      (both_false (not (bytes_eq pair.row other.row)) _ _ (makes_false before other h same.1) x.2)

  past_false : (before : List Card) (card : Card) → AllSame before → Same before card → has_past_number (decimal format) before card ≡ false → has_past_number (fraction format) before card ≡ false
  past_false before (RowCard kind name) h same e = refl
  past_false before (MarkerCard word) h same e = refl
  past_false before (ColumnCard name pairs) h same e = either_same is_past pairs same ∙ e
  past_false before (SideCard set pairs) h same e = by (counts (side_set before) set) refl e
    where
      by : (b : Bool) → counts (side_set before) set ≡ b → (b && either (past_pair (decimal format)) pairs) ≡ false → (b && either (past_pair (fraction format)) pairs) ≡ false
      by true on f = either_same is_past pairs (same on) ∙ f
      by false on f = refl
  past_false before (RangeCard set pairs) h same e = by (counts (range_set before) set) refl e
    where
      by : (b : Bool) → counts (range_set before) set ≡ b → (b && past_ranges (decimal format) before pairs) ≡ false → (b && past_ranges (fraction format) before pairs) ≡ false
      by true on f = ranges_past before pairs h (same on) f
      by false on f = refl
  past_false before (ValuedCard set kind column number) h same e = by (counts (bound_set before) set) refl e
    where
      by : (b : Bool) → counts (bound_set before) set ≡ b → (b && is_past (limit_on (decimal format) number)) ≡ false → (b && is_past (limit_on (fraction format) number)) ≡ false
      by true on f = ap is_past (same on) ∙ f
      by false on f = refl
  past_false before (BareCard set kind column) h same e = refl
  past_false before UnknownCard h same e = refl

  again_same : (before : List Card) (card : Card) → AllSame before → names_entry_again (fraction format) before card ≡ names_entry_again (decimal format) before card
  again_same before (RowCard kind name) h = refl
  again_same before (MarkerCard word) h = refl
  again_same before (ColumnCard name pairs) h =
      let same : number_at (fraction format) before ≡ number_at (decimal format) before = λ t j i. entry_same before h j i t in
      ap (λ (f : ℕ → ℕ → Option Number). either (λ pair. at_place (λ j. at_place (λ i. is_some (f j i)) (place pair.row (row_names before))) (place name (column_names before))) pairs || is_doubled pairs) same
  again_same before (SideCard set pairs) h =
      let same : side_of (fraction format) before ≡ side_of (decimal format) before = λ t i. side_same before h i t in
      ap (λ (f : ℕ → Option Number). counts (side_set before) set && (either (λ pair. at_place (λ i. is_some (f i)) (place pair.row (row_names before))) pairs || is_doubled pairs)) same
  again_same before (RangeCard set pairs) h =
      let same : range_of (fraction format) before ≡ range_of (decimal format) before = λ t i. range_same before h i t in
      ap (λ (f : ℕ → Option Interval). counts (range_set before) set && (either (λ pair. at_place (λ i. is_some (f i)) (place pair.row (row_names before))) pairs || is_doubled pairs)) same
  again_same before (ValuedCard set kind column number) h = refl
  again_same before (BareCard set kind column) h = refl
  again_same before UnknownCard h = refl

  pub card_sound : (before : List Card) (card : Card) → AllSame before → card_fault (decimal format) before card ≡ None → card_fault (fraction format) before card ≡ None
  card_sound before card h sound =
      let t = tests_false before card sound in
      let same = same_by before card t.0 t.1 in
      let table : Bool → Bool → Bool → Option MpsFaultKind = λ bad past again. first_of ((bad, BadNumber) ∷ (past, faults.TheVariants.NumberPast) ∷ others before card again) in
      ap (λ (b : Bool). table b (has_past_number (fraction format) before card) (names_entry_again (fraction format) before card)) (bad_same before card same)
      ∙ ap₂ (table (has_bad_number (decimal format) before card)) (past_false before card h same t.1 ∙ sym t.1) (again_same before card h)
      ∙ sound
