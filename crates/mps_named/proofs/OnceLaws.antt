-- In cards without a fault a column and a row are named together at most once, and so is a row in RHS and in RANGES.
use Rattle.std.proofs.Common.{◌≡◌, ℕ, ◌≤◌, List, [], ◌∷◌, ◌++◌, length, Bool, true, false, cond, Option, Some, None, Ok, Err, refl, sym, ap, ap₂, ◌∙◌, subst, arith, append_assoc}
use Rattle.std.specs.Prelude.{Result, is_some, is_none, ◌&&◌, ◌||◌}
use Rattle.std.specs.Str.{bytes_eq}
use Rattle.std.proofs.lemmas.Bool.{or_parts}
use Rattle.std.proofs.lemmas.Slice.Eq.{bytes_eq-Decides}
use Rattle.fractions.specs.Number.{Number}
use Rattle.number_texts.specs.declared.reading.ReadNumber.{ReadNumber}
use Rattle.number_texts.specs.declared.reading.ReadNumber.TheVariants.{NotNumber, NumberPast}
use Rattle.names.specs.Names.{place}
use Rattle.mps_profile.specs.Texts.{Text}
use Rattle.mps_profile.specs.Numerals.{number_on}
use Rattle.mps_profile.specs.Cards.{Pair, Pairs, One, Two, either, Card, RowCard, MarkerCard, ColumnCard, SideCard, RangeCard, ValuedCard, BareCard, UnknownCard}
use Rattle.mps_profile.specs.CardFaults.{is_bad, is_past, bad_pair, past_pair, past_range, past_ranges, at_place, is_doubled, has_number, has_side, has_range, is_free_row, is_new_row}
use Rattle.mps_profile.specs.Sets.{counts, side_set, range_set}
use Rattle.mps_profile.specs.Rows.{row_names, row_kind, is_free, value_in, interval_in, side_of, range_of}
use Rattle.mps_profile.specs.Columns.{column_names, number_at}
use Rattle.mps_profile.specs.declared.dialect.Dialect.{Dialect}
use Rattle.mps_profile.specs.declared.row_kinds.Interval.{Interval}
use Rattle.mps_profile.specs.declared.row_kinds.RowKind.{RowKind}
use Rattle.mps_profile.specs.declared.row_kinds.RowKind.TheVariants.{Free, AtMost, AtLeast, Equal}
use Rattle.mps_laws.specs.Faultless.{IsFaultless}
use Rattle.mps_named.specs.Named.{row_kind_named, pairs_named, side_named, interval_named, pairs_range_named, range_named, number_named}
use Rattle.mps_named.specs.Once.{pair_naming, pairs_naming, entries_naming, sides_naming, ranges_naming, first_number}
use Rattle.mps_named.proofs.CardSense.{ranges-fit, sound}
use Rattle.mps_named.proofs.Agreement.{place_is, Agree}
use Rattle.mps_named.proofs.RowAgreement.{kinds-agree, sides-agree, ranges-agree}
use Rattle.mps_named.proofs.ColumnAgreement.{number_beside, numbers-of_rows, numbers-of_columns}

-- ---- each of a card's pairs
abbrev Each : (Pair → Type 0) → Pairs → Type 0
Each P (One pair) = P pair
Each P (Two pair other) = P pair × P other

none_passes : (test : Pair → Bool) (pairs : Pairs) → either test pairs ≡ false → Each (λ pair. test pair ≡ false) pairs
none_passes test (One pair) h = h
none_passes test (Two pair other) h = or_parts _ _ h

each_from : (P Q : Pair → Type 0) (pairs : Pairs) → ((pair : Pair) → P pair → Q pair) → Each P pairs → Each Q pairs
each_from P Q (One pair) f h = f pair h
each_from P Q (Two pair other) f h = (f pair h.0, f other h.1)

each_both : (P Q : Pair → Type 0) (pairs : Pairs) → Each P pairs → Each Q pairs → Each (λ pair. P pair × Q pair) pairs
each_both P Q (One pair) h k = (h, k)
each_both P Q (Two pair other) h k = ((h.0, k.0), (h.1, k.1))

-- ---- the pairs that name a row
-- the value of the last of the pairs that names the row, or what stands before it
abbrev chain : {A : Type 0} → Text → (Pair → Option A) → Pairs → Option A → Option A
chain row value (One pair) earlier = cond (bytes_eq pair.row row) (value pair) earlier
chain row value (Two pair other) earlier = cond (bytes_eq other.row row) (value other) (cond (bytes_eq pair.row row) (value pair) earlier)

abbrev HasValue : {A : Type 0} → Text → (Pair → Option A) → Pair → Type 0
HasValue row value pair = bytes_eq pair.row row ≡ true → is_some (value pair) ≡ true

no_value : {A : Type 0} (o : Option A) → is_some o ≡ true → o ≡ None → ⊥
no_value None h e = cc
no_value (Some x) h e = cc

pair_none : {A : Type 0} (row : Text) (value : Pair → Option A) (pair : Pair) (earlier : Option A) → HasValue row value pair → cond (bytes_eq pair.row row) (value pair) earlier ≡ None
    → (pair_naming row pair ≡ []) × (earlier ≡ None)
pair_none {A} row value pair earlier some = by (bytes_eq pair.row row) refl
  where
    by : (b : Bool) → bytes_eq pair.row row ≡ b → cond b (value pair) earlier ≡ None → (cond b (pair ∷ []) [] ≡ []) × (earlier ≡ None)
    by true e h = absurd (no_value (value pair) (some e) h)
    by false e h = (refl, h)

chain_none : {A : Type 0} (row : Text) (value : Pair → Option A) (pairs : Pairs) (earlier : Option A) → Each (HasValue row value) pairs → chain row value pairs earlier ≡ None
    → (pairs_naming row pairs ≡ []) × (earlier ≡ None)
chain_none row value (One pair) earlier some h = pair_none row value pair earlier some h
chain_none row value (Two pair other) earlier some h =
    let last = pair_none row value other (cond (bytes_eq pair.row row) (value pair) earlier) some.1 h in
    let first = pair_none row value pair earlier some.0 last.1 in
    (ap₂ ◌++◌ last.0 first.0, first.1)

pair_once : (row : Text) (pair : Pair) (earlier : List Pair) → (bytes_eq pair.row row ≡ true → earlier ≡ []) → length earlier ≤ 1 → length (pair_naming row pair ++ earlier) ≤ 1
pair_once row pair earlier new few = by (bytes_eq pair.row row) refl
  where
    by : (b : Bool) → bytes_eq pair.row row ≡ b → length (cond b (pair ∷ []) [] ++ earlier) ≤ 1
    by true e = subst (λ (xs : List Pair). length (pair ∷ xs) ≤ 1) (sym (new e)) (omega arith)
    by false e = few

pairs_once : (row : Text) (pairs : Pairs) (earlier : List Pair) → is_doubled pairs ≡ false → Each (λ pair. bytes_eq pair.row row ≡ true → earlier ≡ []) pairs → length earlier ≤ 1
    → length (pairs_naming row pairs ++ earlier) ≤ 1
pairs_once row (One pair) earlier single new few = pair_once row pair earlier new few
pairs_once row (Two pair other) earlier single new few = by (bytes_eq other.row row) (bytes_eq pair.row row) refl refl
  where
    by : (x y : Bool) → bytes_eq other.row row ≡ x → bytes_eq pair.row row ≡ y → length ((cond x (other ∷ []) [] ++ cond y (pair ∷ []) []) ++ earlier) ≤ 1
    by true true e f =
        let same : pair.row ≡ other.row = (bytes_eq-Decides pair.row row).0 f ∙ sym ((bytes_eq-Decides other.row row).0 e) in
        cc ((bytes_eq-Decides pair.row other.row).1 same)
    by true false e f = subst (λ (xs : List Pair). length (other ∷ xs) ≤ 1) (sym (new.1 e)) (omega arith)
    by false true e f = subst (λ (xs : List Pair). length (pair ∷ xs) ≤ 1) (sym (new.0 f)) (omega arith)
    by false false e f = few

-- at most one pair, and none where there is no value
pub record Once {A : Type 0} (found : Option A) (pairs : List Pair) : Type 0 where
  pub empty : found ≡ None → pairs ≡ []
  pub alone : length pairs ≤ 1

once_step : {A : Type 0} (row : Text) (value : Pair → Option A) (pairs : Pairs) (found : Option A) (earlier : List Pair) → Each (HasValue row value) pairs → is_doubled pairs ≡ false
    → Each (λ pair. bytes_eq pair.row row ≡ true → found ≡ None) pairs → Once found earlier → Once (chain row value pairs found) (pairs_naming row pairs ++ earlier)
once_step row value pairs found earlier some single new once = record {
  empty = λ h. let none = chain_none row value pairs found some h in ap₂ ◌++◌ none.0 (once.empty none.1);
  alone = pairs_once row pairs earlier single (each_from (λ pair. bytes_eq pair.row row ≡ true → found ≡ None) (λ pair. bytes_eq pair.row row ≡ true → earlier ≡ []) pairs (λ pair h e. once.empty (h e)) new) once.alone;
}

-- ---- numbers that are read
read_some : (n : Result Number ReadNumber) → is_bad n ≡ false → is_past n ≡ false → is_some (value_in n) ≡ true
read_some (Ok q) bad past = refl
read_some (Err NotNumber) bad past = cc
read_some (Err NumberPast) bad past = cc

have_numbers : (dialect : Dialect) (row : Text) (pairs : Pairs) → either (bad_pair dialect) pairs ≡ false → either (past_pair dialect) pairs ≡ false → Each (HasValue row (λ pair. value_in (number_on dialect pair.number))) pairs
have_numbers dialect row pairs bad past =
    each_from (λ pair. (bad_pair dialect pair ≡ false) × (past_pair dialect pair ≡ false)) (HasValue row (λ pair. value_in (number_on dialect pair.number))) pairs (λ pair h e. read_some (number_on dialect pair.number) h.0 h.1)
    (each_both (λ pair. bad_pair dialect pair ≡ false) (λ pair. past_pair dialect pair ≡ false) pairs (none_passes (bad_pair dialect) pairs bad) (none_passes (past_pair dialect) pairs past))

none_of : {A : Type 0} (o : Option A) → is_some o ≡ false → o ≡ None
none_of None h = refl
none_of (Some x) h = cc

-- no value at the place of a name: none by the name
pub agree_none : {A : Type 0} (names : List Text) (at : ℕ → Option A) (named : Text → Option A) (name : Text) → Agree None names at named → at_place (λ i. is_some (at i)) (place name names) ≡ false → named name ≡ None
agree_none {A} names at named name a = by (place name names) refl
  where
    by : (o : Option ℕ) → place name names ≡ o → at_place (λ i. is_some (at i)) o ≡ false → named name ≡ None
    by None here h = a.unknown name here
    by (Some k) here h = let p = place_is name names k here in ap named p.1 ∙ sym (a.within k p.0) ∙ none_of (at k) h

same_text : (x y : Text) → bytes_eq x y ≡ true → x ≡ y
same_text x y e = (bytes_eq-Decides x y).0 e

-- ---- right sides
pairs-chain : (dialect : Dialect) (row : Text) (pairs : Pairs) (earlier : Option Number) → chain row (λ pair. value_in (number_on dialect pair.number)) pairs earlier ≡ pairs_named dialect row pairs earlier
pairs-chain dialect row (One pair) earlier = refl
pairs-chain dialect row (Two pair other) earlier = refl

sides-once : (dialect : Dialect) (cards : List Card) (row : Text) → IsFaultless dialect cards → Once (side_named dialect cards row) (sides_naming cards row)
sides-once dialect [] row h = record { empty = λ e. refl; alone = omega arith }
sides-once dialect (RowCard kind name ∷ before) row h = sides-once dialect before row h.1
sides-once dialect (MarkerCard word ∷ before) row h = sides-once dialect before row h.1
sides-once dialect (ColumnCard name pairs ∷ before) row h = sides-once dialect before row h.1
sides-once dialect (SideCard set pairs ∷ before) row h =
    let s = sound dialect before (SideCard set pairs) h.0 in
    by (counts (side_set before) set) s.bad_number s.past_number s.entry_again (sides-once dialect before row h.1)
  where
    new : either (has_side dialect before) pairs ≡ false → Each (λ pair. bytes_eq pair.row row ≡ true → side_named dialect before row ≡ None) pairs
    new again = each_from (λ pair. has_side dialect before pair ≡ false) (λ pair. bytes_eq pair.row row ≡ true → side_named dialect before row ≡ None) pairs
        (λ pair none e. ap (side_named dialect before) (sym (same_text pair.row row e)) ∙ agree_none (row_names before) (λ i. side_of dialect before i) (λ m. side_named dialect before m) pair.row (sides-agree dialect before h.1) none)
        (none_passes (has_side dialect before) pairs again)

    by : (b : Bool) → (b && either (bad_pair dialect) pairs) ≡ false → (b && either (past_pair dialect) pairs) ≡ false → (b && (either (has_side dialect before) pairs || is_doubled pairs)) ≡ false
        → Once (side_named dialect before row) (sides_naming before row)
        → Once (cond b (pairs_named dialect row pairs (side_named dialect before row)) (side_named dialect before row)) (cond b (pairs_naming row pairs) [] ++ sides_naming before row)
    by true bad past again once =
        let both = or_parts _ _ again in
        subst (λ (o : Option Number). Once o (pairs_naming row pairs ++ sides_naming before row)) (pairs-chain dialect row pairs (side_named dialect before row))
        (once_step row (λ pair. value_in (number_on dialect pair.number)) pairs (side_named dialect before row) (sides_naming before row) (have_numbers dialect row pairs bad past) both.1 (new both.0) once)
    by false bad past again once = once
sides-once dialect (RangeCard set pairs ∷ before) row h = sides-once dialect before row h.1
sides-once dialect (ValuedCard set kind column number ∷ before) row h = sides-once dialect before row h.1
sides-once dialect (BareCard set kind column ∷ before) row h = sides-once dialect before row h.1
sides-once dialect (UnknownCard ∷ before) row h = sides-once dialect before row h.1

pub sides-alone : (dialect : Dialect) (cards : List Card) (row : Text) → IsFaultless dialect cards → length (sides_naming cards row) ≤ 1
sides-alone dialect cards row h = (sides-once dialect cards row h).alone

-- ---- numbers
no_number : (dialect : Dialect) (before : List Card) (name : Text) (pair : Pair) → IsFaultless dialect before → has_number dialect before name pair ≡ false → number_named dialect before name pair.row ≡ None
no_number dialect before name pair h = by (place name (column_names before)) refl
  where
    columns : Agree None (column_names before) (λ j. number_beside dialect before j pair.row) (λ m. number_named dialect before m pair.row)
    columns = numbers-of_columns dialect before pair.row

    by : (o : Option ℕ) → place name (column_names before) ≡ o → at_place (λ j. at_place (λ i. is_some (number_at dialect before j i)) (place pair.row (row_names before))) o ≡ false → number_named dialect before name pair.row ≡ None
    by None here none = columns.unknown name here
    by (Some j) here none =
        let p = place_is name (column_names before) j here in
        ap (λ m. number_named dialect before m pair.row) p.1 ∙ sym (columns.within j p.0)
        ∙ agree_none (row_names before) (λ i. number_at dialect before j i) (λ m. number_beside dialect before j m) pair.row (numbers-of_rows dialect before j h) none

entries-once : (dialect : Dialect) (cards : List Card) (column row : Text) → IsFaultless dialect cards → Once (number_named dialect cards column row) (entries_naming cards column row)
entries-once dialect [] column row h = record { empty = λ e. refl; alone = omega arith }
entries-once dialect (RowCard kind name ∷ before) column row h = entries-once dialect before column row h.1
entries-once dialect (MarkerCard word ∷ before) column row h = entries-once dialect before column row h.1
entries-once dialect (ColumnCard name pairs ∷ before) column row h = by (bytes_eq name column) refl (entries-once dialect before column row h.1)
  where
    new : bytes_eq name column ≡ true → either (has_number dialect before name) pairs ≡ false → Each (λ pair. bytes_eq pair.row row ≡ true → number_named dialect before column row ≡ None) pairs
    new same again = each_from (λ pair. has_number dialect before name pair ≡ false) (λ pair. bytes_eq pair.row row ≡ true → number_named dialect before column row ≡ None) pairs
        (λ pair none e. ap₂ (λ c r. number_named dialect before c r) (sym (same_text name column same)) (sym (same_text pair.row row e)) ∙ no_number dialect before name pair h.1 none)
        (none_passes (has_number dialect before name) pairs again)

    by : (b : Bool) → bytes_eq name column ≡ b → Once (number_named dialect before column row) (entries_naming before column row)
        → Once (cond b (pairs_named dialect row pairs (number_named dialect before column row)) (number_named dialect before column row)) (cond b (pairs_naming row pairs) [] ++ entries_naming before column row)
    by true same once =
        let s = sound dialect before (ColumnCard name pairs) h.0 in
        let both = or_parts _ _ s.entry_again in
        subst (λ (o : Option Number). Once o (pairs_naming row pairs ++ entries_naming before column row)) (pairs-chain dialect row pairs (number_named dialect before column row))
        (once_step row (λ pair. value_in (number_on dialect pair.number)) pairs (number_named dialect before column row) (entries_naming before column row) (have_numbers dialect row pairs s.bad_number s.past_number) both.1 (new same both.0) once)
    by false same once = once
entries-once dialect (SideCard set pairs ∷ before) column row h = entries-once dialect before column row h.1
entries-once dialect (RangeCard set pairs ∷ before) column row h = entries-once dialect before column row h.1
entries-once dialect (ValuedCard set kind name number ∷ before) column row h = entries-once dialect before column row h.1
entries-once dialect (BareCard set kind name ∷ before) column row h = entries-once dialect before column row h.1
entries-once dialect (UnknownCard ∷ before) column row h = entries-once dialect before column row h.1

pub entries-alone : (dialect : Dialect) (cards : List Card) (column row : Text) → IsFaultless dialect cards → length (entries_naming cards column row) ≤ 1
entries-alone dialect cards column row h = (entries-once dialect cards column row h).alone

-- ---- ranges
range_some : (kind : RowKind) (b : Number) (n : Result Number ReadNumber) → is_free kind ≡ false → is_bad n ≡ false → is_past n ≡ false → is_some (interval_in kind b n) ≡ true
range_some Free b n free bad past = cc
range_some AtMost b (Ok q) free bad past = refl
range_some AtLeast b (Ok q) free bad past = refl
range_some Equal b (Ok q) free bad past = refl
range_some kind b (Err NotNumber) free bad past = cc
range_some kind b (Err NumberPast) free bad past = cc

-- a known row that is no N row at its place is none by its name
not_free : (dialect : Dialect) (before : List Card) (pair : Pair) → IsFaultless dialect before → is_new_row before pair ≡ false → is_free_row before pair ≡ false → is_free (row_kind_named before pair.row) ≡ false
not_free dialect before pair h = by (place pair.row (row_names before)) refl
  where
    by : (o : Option ℕ) → place pair.row (row_names before) ≡ o → is_none o ≡ false → at_place (λ i. is_free (row_kind before i)) o ≡ false → is_free (row_kind_named before pair.row) ≡ false
    by None here known free = cc
    by (Some k) here known free = let p = place_is pair.row (row_names before) k here in ap (λ m. is_free (row_kind_named before m)) p.1 ∙ sym (ap is_free ((kinds-agree dialect before h).within k p.0)) ∙ free

ranges-chain : (dialect : Dialect) (before : List Card) (row : Text) (pairs : Pairs) (earlier : Option Interval) → chain row (interval_named dialect before row) pairs earlier ≡ pairs_range_named dialect before row pairs earlier
ranges-chain dialect before row (One pair) earlier = refl
ranges-chain dialect before row (Two pair other) earlier = refl

abbrev RangeFacts : Dialect → List Card → Pair → Type 0
RangeFacts dialect before pair = ((bad_pair dialect pair ≡ false) × (past_range dialect before pair ≡ false)) × ((is_new_row before pair ≡ false) × (is_free_row before pair ≡ false))

ranges-once : (dialect : Dialect) (cards : List Card) (row : Text) → IsFaultless dialect cards → Once (range_named dialect cards row) (ranges_naming cards row)
ranges-once dialect [] row h = record { empty = λ e. refl; alone = omega arith }
ranges-once dialect (RowCard kind name ∷ before) row h = ranges-once dialect before row h.1
ranges-once dialect (MarkerCard word ∷ before) row h = ranges-once dialect before row h.1
ranges-once dialect (ColumnCard name pairs ∷ before) row h = ranges-once dialect before row h.1
ranges-once dialect (SideCard set pairs ∷ before) row h = ranges-once dialect before row h.1
ranges-once dialect (RangeCard set pairs ∷ before) row h =
    let s = sound dialect before (RangeCard set pairs) h.0 in
    by (counts (range_set before) set) s.bad_number s.past_number s.unknown_row s.ranged_free s.entry_again (ranges-once dialect before row h.1)
  where
    new : either (has_range dialect before) pairs ≡ false → Each (λ pair. bytes_eq pair.row row ≡ true → range_named dialect before row ≡ None) pairs
    new again = each_from (λ pair. has_range dialect before pair ≡ false) (λ pair. bytes_eq pair.row row ≡ true → range_named dialect before row ≡ None) pairs
        (λ pair none e. ap (range_named dialect before) (sym (same_text pair.row row e)) ∙ agree_none (row_names before) (λ i. range_of dialect before i) (λ m. range_named dialect before m) pair.row (ranges-agree dialect before h.1) none)
        (none_passes (has_range dialect before) pairs again)

    some : (pair : Pair) → RangeFacts dialect before pair → HasValue row (interval_named dialect before row) pair
    some pair f e = range_some (row_kind_named before row) _ (number_on dialect pair.number)
        (ap (λ m. is_free (row_kind_named before m)) (sym (same_text pair.row row e)) ∙ not_free dialect before pair h.1 f.1.0 f.1.1) f.0.0 (or_parts _ _ f.0.1).0

    by : (b : Bool) → (b && either (bad_pair dialect) pairs) ≡ false → (b && past_ranges dialect before pairs) ≡ false → (b && either (is_new_row before) pairs) ≡ false → (b && either (is_free_row before) pairs) ≡ false
        → (b && (either (has_range dialect before) pairs || is_doubled pairs)) ≡ false
        → Once (range_named dialect before row) (ranges_naming before row)
        → Once (cond b (pairs_range_named dialect before row pairs (range_named dialect before row)) (range_named dialect before row)) (cond b (pairs_naming row pairs) [] ++ ranges_naming before row)
    by true bad past known free again once =
        let both = or_parts _ _ again in
        let numbers = each_both (λ pair. bad_pair dialect pair ≡ false) (λ pair. past_range dialect before pair ≡ false) pairs (none_passes (bad_pair dialect) pairs bad) (none_passes (past_range dialect before) pairs (ranges-fit dialect before pairs past both.1)) in
        let rows = each_both (λ pair. is_new_row before pair ≡ false) (λ pair. is_free_row before pair ≡ false) pairs (none_passes (is_new_row before) pairs known) (none_passes (is_free_row before) pairs free) in
        let facts : Each (RangeFacts dialect before) pairs = each_both (λ pair. (bad_pair dialect pair ≡ false) × (past_range dialect before pair ≡ false)) (λ pair. (is_new_row before pair ≡ false) × (is_free_row before pair ≡ false)) pairs numbers rows in
        subst (λ (o : Option Interval). Once o (pairs_naming row pairs ++ ranges_naming before row)) (ranges-chain dialect before row pairs (range_named dialect before row))
        (once_step row (interval_named dialect before row) pairs (range_named dialect before row) (ranges_naming before row) (each_from (RangeFacts dialect before) (HasValue row (interval_named dialect before row)) pairs some facts) both.1 (new both.0) once)
    by false bad past known free again once = once
ranges-once dialect (ValuedCard set kind column number ∷ before) row h = ranges-once dialect before row h.1
ranges-once dialect (BareCard set kind column ∷ before) row h = ranges-once dialect before row h.1
ranges-once dialect (UnknownCard ∷ before) row h = ranges-once dialect before row h.1

pub ranges-alone : (dialect : Dialect) (cards : List Card) (row : Text) → IsFaultless dialect cards → length (ranges_naming cards row) ≤ 1
ranges-alone dialect cards row h = (ranges-once dialect cards row h).alone

-- ---- the number by names is that of the first pair
pair-first : (dialect : Dialect) (row : Text) (pair : Pair) (list : List Pair) → cond (bytes_eq pair.row row) (value_in (number_on dialect pair.number)) (first_number dialect list) ≡ first_number dialect (pair_naming row pair ++ list)
pair-first dialect row pair list = by (bytes_eq pair.row row)
  where
    by : (b : Bool) → cond b (value_in (number_on dialect pair.number)) (first_number dialect list) ≡ first_number dialect (cond b (pair ∷ []) [] ++ list)
    by true = refl
    by false = refl

pairs-first : (dialect : Dialect) (row : Text) (pairs : Pairs) (list : List Pair) → pairs_named dialect row pairs (first_number dialect list) ≡ first_number dialect (pairs_naming row pairs ++ list)
pairs-first dialect row (One pair) list = pair-first dialect row pair list
pairs-first dialect row (Two pair other) list =
    ap (λ (o : Option Number). cond (bytes_eq other.row row) (value_in (number_on dialect other.number)) o) (pair-first dialect row pair list)
    ∙ pair-first dialect row other (pair_naming row pair ++ list)
    ∙ ap (first_number dialect) (sym (append_assoc (pair_naming row other) (pair_naming row pair) list))

step-first : (dialect : Dialect) (row : Text) (b : Bool) (pairs : Pairs) (list : List Pair) (found : Option Number) → found ≡ first_number dialect list
    → cond b (pairs_named dialect row pairs found) found ≡ first_number dialect (cond b (pairs_naming row pairs) [] ++ list)
step-first dialect row true pairs list found e = ap (pairs_named dialect row pairs) e ∙ pairs-first dialect row pairs list
step-first dialect row false pairs list found e = e

pub sides-first : (dialect : Dialect) (cards : List Card) (row : Text) → side_named dialect cards row ≡ first_number dialect (sides_naming cards row)
sides-first dialect [] row = refl
sides-first dialect (RowCard kind name ∷ before) row = sides-first dialect before row
sides-first dialect (MarkerCard word ∷ before) row = sides-first dialect before row
sides-first dialect (ColumnCard name pairs ∷ before) row = sides-first dialect before row
sides-first dialect (SideCard set pairs ∷ before) row = step-first dialect row (counts (side_set before) set) pairs (sides_naming before row) (side_named dialect before row) (sides-first dialect before row)
sides-first dialect (RangeCard set pairs ∷ before) row = sides-first dialect before row
sides-first dialect (ValuedCard set kind column number ∷ before) row = sides-first dialect before row
sides-first dialect (BareCard set kind column ∷ before) row = sides-first dialect before row
sides-first dialect (UnknownCard ∷ before) row = sides-first dialect before row

pub entries-first : (dialect : Dialect) (cards : List Card) (column row : Text) → number_named dialect cards column row ≡ first_number dialect (entries_naming cards column row)
entries-first dialect [] column row = refl
entries-first dialect (RowCard kind name ∷ before) column row = entries-first dialect before column row
entries-first dialect (MarkerCard word ∷ before) column row = entries-first dialect before column row
entries-first dialect (ColumnCard name pairs ∷ before) column row =
    step-first dialect row (bytes_eq name column) pairs (entries_naming before column row) (number_named dialect before column row) (entries-first dialect before column row)
entries-first dialect (SideCard set pairs ∷ before) column row = entries-first dialect before column row
entries-first dialect (RangeCard set pairs ∷ before) column row = entries-first dialect before column row
entries-first dialect (ValuedCard set kind name number ∷ before) column row = entries-first dialect before column row
entries-first dialect (BareCard set kind name ∷ before) column row = entries-first dialect before column row
entries-first dialect (UnknownCard ∷ before) column row = entries-first dialect before column row
