-- What cards without a fault say of rows by places agrees with what they say by names.
use Rattle.std.proofs.Common.{◌≡◌, ◌≢◌, ℕ, zero, suc, ◌+◌, ◌<◌, List, [], ◌∷◌, ◌++◌, length, length-append, get_or, Bool, true, false, cond, Option, Some, None, refl, sym, ap, ap₂, ◌∙◌, arith}
use Rattle.std.specs.Prelude.{is_some, is_none, ◌==◌, ◌&&◌, unwrap_or}
use Rattle.std.specs.Str.{bytes_eq}
use Rattle.std.proofs.lemmas.Bool.{or_parts}
use Rattle.std.proofs.lemmas.Bool.Decides.{nat_tests}
use Rattle.fractions.specs.Number.{Number, zero_ℚ}
use Rattle.names.specs.Names.{place}
use Rattle.mps_profile.specs.Texts.{Text, field}
use Rattle.mps_profile.specs.Words.{kind_named}
use Rattle.mps_profile.specs.Numerals.{number_on}
use Rattle.mps_profile.specs.Cards.{Pair, Pairs, One, Two, either, Card, RowCard, MarkerCard, ColumnCard, SideCard, RangeCard, ValuedCard, BareCard, UnknownCard}
use Rattle.mps_profile.specs.Sets.{counts, side_set, range_set}
use Rattle.mps_profile.specs.Rows.{row_names, row_kinds, row_kind, value_in, pair_value, pairs_value, side_of, right_side, interval_in, pair_range, pairs_range, range_of}
use Rattle.mps_profile.specs.declared.dialect.Dialect.{Dialect}
use Rattle.mps_profile.specs.declared.row_kinds.Interval.{Interval}
use Rattle.mps_profile.specs.declared.row_kinds.RowKind.{RowKind}
use Rattle.mps_profile.specs.declared.row_kinds.RowKind.TheVariants.{Free}
use Rattle.mps_laws.specs.Faultless.{IsFaultless}
use Rattle.mps_named.specs.Named.{row_kind_named, pair_named, pairs_named, side_named, pair_range_named, pairs_range_named, range_named}
use Rattle.mps_named.proofs.CardSense.{sound}
use Rattle.mps_named.proofs.Agreement.{IsNumbered, numbered_push, Agree, agree_push, agree_step, agree_same, agree_last}

pub is_new : (o : Option ℕ) → is_some o ≡ false → o ≡ None
is_new None h = refl
is_new (Some k) h = cc

-- the names of rows differ
pub rows-numbered : (dialect : Dialect) (cards : List Card) → IsFaultless dialect cards → IsNumbered (row_names cards)
rows-numbered dialect [] h = λ i lt. absurd (omega (arith, lt))
rows-numbered dialect (RowCard kind name ∷ before) h = numbered_push (row_names before) name (rows-numbered dialect before h.1) (is_new _ (sound dialect before (RowCard kind name) h.0).row_again)
rows-numbered dialect (MarkerCard word ∷ before) h = rows-numbered dialect before h.1
rows-numbered dialect (ColumnCard name pairs ∷ before) h = rows-numbered dialect before h.1
rows-numbered dialect (SideCard set pairs ∷ before) h = rows-numbered dialect before h.1
rows-numbered dialect (RangeCard set pairs ∷ before) h = rows-numbered dialect before h.1
rows-numbered dialect (ValuedCard set kind column number ∷ before) h = rows-numbered dialect before h.1
rows-numbered dialect (BareCard set kind column ∷ before) h = rows-numbered dialect before h.1
rows-numbered dialect (UnknownCard ∷ before) h = rows-numbered dialect before h.1

-- ---- types
kinds-length : (cards : List Card) → length (row_kinds cards) ≡ length (row_names cards)
kinds-length [] = refl
kinds-length (RowCard kind name ∷ before) =
    length-append (row_kinds before) (unwrap_or (kind_named kind) Free ∷ []) ∙ ap (λ (n : ℕ). n + 1) (kinds-length before) ∙ sym (length-append (row_names before) (name ∷ []))
kinds-length (MarkerCard word ∷ before) = kinds-length before
kinds-length (ColumnCard name pairs ∷ before) = kinds-length before
kinds-length (SideCard set pairs ∷ before) = kinds-length before
kinds-length (RangeCard set pairs ∷ before) = kinds-length before
kinds-length (ValuedCard set kind column number ∷ before) = kinds-length before
kinds-length (BareCard set kind column ∷ before) = kinds-length before
kinds-length (UnknownCard ∷ before) = kinds-length before

differ : (n i : ℕ) → n ≢ i → (n == i) ≡ false
differ n i h = grind (arith, nat_tests)

same_after : (n i : ℕ) → (suc n == suc i) ≡ (n == i)
same_after n i = by (n == i) refl
  where
    by : (b : Bool) → (n == i) ≡ b → (suc n == suc i) ≡ b
    by true e = grind (arith, nat_tests)
    by false e = grind (arith, nat_tests)

one_more : (xs : List RowKind) (x : RowKind) (i : ℕ) → get_or (xs ++ x ∷ []) i Free ≡ cond (length xs == i) x (get_or xs i Free)
one_more [] x zero = refl
one_more [] x (suc i) = ap (λ b. cond b x Free) (sym (differ 0 (suc i) (omega arith)))
one_more (y ∷ xs) x zero = ap (λ b. cond b x y) (sym (differ (suc (length xs)) 0 (omega arith)))
one_more (y ∷ xs) x (suc i) = one_more xs x i ∙ ap (λ b. cond b x (get_or xs i Free)) (sym (same_after (length xs) i))

pub kinds-agree : (dialect : Dialect) (cards : List Card) → IsFaultless dialect cards → Agree Free (row_names cards) (λ i. row_kind cards i) (λ row. row_kind_named cards row)
kinds-agree dialect [] h = record { within = λ i lt. refl; past = λ i l. refl; unknown = λ m l. refl }
kinds-agree dialect (RowCard kind name ∷ before) h =
    let x : RowKind = unwrap_or (kind_named kind) Free in
    agree_same Free (row_names before ++ name ∷ []) (λ i. cond (length (row_names before) == i) x (row_kind before i)) (λ i. row_kind (RowCard kind name ∷ before) i) (λ m. cond (bytes_eq name m) x (row_kind_named before m))
    (λ i. one_more (row_kinds before) x i ∙ ap (λ (n : ℕ). cond (n == i) x (row_kind before i)) (kinds-length before))
    (agree_last Free (row_names before) (λ i. row_kind before i) (λ m. row_kind_named before m) name x (rows-numbered dialect before h.1) (is_new _ (sound dialect before (RowCard kind name) h.0).row_again) (kinds-agree dialect before h.1))
kinds-agree dialect (MarkerCard word ∷ before) h = kinds-agree dialect before h.1
kinds-agree dialect (ColumnCard name pairs ∷ before) h = kinds-agree dialect before h.1
kinds-agree dialect (SideCard set pairs ∷ before) h = kinds-agree dialect before h.1
kinds-agree dialect (RangeCard set pairs ∷ before) h = kinds-agree dialect before h.1
kinds-agree dialect (ValuedCard set kind column number ∷ before) h = kinds-agree dialect before h.1
kinds-agree dialect (BareCard set kind column ∷ before) h = kinds-agree dialect before h.1
kinds-agree dialect (UnknownCard ∷ before) h = kinds-agree dialect before h.1

-- ---- numbers of pairs
abbrev pub AreKnown : List Text → Pairs → Type 0
AreKnown names pairs = either (λ pair. is_none (place pair.row names)) pairs ≡ false

pair-agrees : (dialect : Dialect) (names : List Text) (at : ℕ → Option Number) (named : Text → Option Number) (pair : Pair) → IsNumbered names → is_none (place pair.row names) ≡ false
    → Agree None names at named → Agree None names (λ i. pair_value dialect names i pair (at i)) (λ m. pair_named dialect m pair (named m))
pair-agrees dialect names at named pair each known a =
    agree_step None names at named (λ (x : Unit {0}) b y. cond b (value_in (number_on dialect pair.number)) y) (λ i. tt) (λ m. tt) pair.row (place pair.row names) (λ x y. refl) (λ i lt. refl) each refl known a

pub pairs-agree : (dialect : Dialect) (names : List Text) (at : ℕ → Option Number) (named : Text → Option Number) (pairs : Pairs) → IsNumbered names → AreKnown names pairs
    → Agree None names at named → Agree None names (λ i. pairs_value dialect names i pairs (at i)) (λ m. pairs_named dialect m pairs (named m))
pairs-agree dialect names at named (One pair) each known a = pair-agrees dialect names at named pair each known a
pairs-agree dialect names at named (Two pair other) each known a =
    let both = or_parts _ _ known in
    pair-agrees dialect names (λ i. pair_value dialect names i pair (at i)) (λ m. pair_named dialect m pair (named m)) other each both.1 (pair-agrees dialect names at named pair each both.0 a)

-- ---- right sides
pub sides-agree : (dialect : Dialect) (cards : List Card) → IsFaultless dialect cards → Agree None (row_names cards) (λ i. side_of dialect cards i) (λ row. side_named dialect cards row)
sides-agree dialect [] h = record { within = λ i lt. refl; past = λ i l. refl; unknown = λ m l. refl }
sides-agree dialect (RowCard kind name ∷ before) h =
    agree_push None (row_names before) (λ i. side_of dialect before i) (λ m. side_named dialect before m) name (is_new _ (sound dialect before (RowCard kind name) h.0).row_again) (sides-agree dialect before h.1)
sides-agree dialect (MarkerCard word ∷ before) h = sides-agree dialect before h.1
sides-agree dialect (ColumnCard name pairs ∷ before) h = sides-agree dialect before h.1
sides-agree dialect (SideCard set pairs ∷ before) h = by (counts (side_set before) set) (sound dialect before (SideCard set pairs) h.0).unknown_row (sides-agree dialect before h.1)
  where
    by : (b : Bool) → (b && either (λ pair. is_none (place pair.row (row_names before))) pairs) ≡ false → Agree None (row_names before) (λ i. side_of dialect before i) (λ m. side_named dialect before m)
        → Agree None (row_names before) (λ i. cond b (pairs_value dialect (row_names before) i pairs (side_of dialect before i)) (side_of dialect before i)) (λ m. cond b (pairs_named dialect m pairs (side_named dialect before m)) (side_named dialect before m))
    by true known a = pairs-agree dialect (row_names before) (λ i. side_of dialect before i) (λ m. side_named dialect before m) pairs (rows-numbered dialect before h.1) known a
    by false known a = a
sides-agree dialect (RangeCard set pairs ∷ before) h = sides-agree dialect before h.1
sides-agree dialect (ValuedCard set kind column number ∷ before) h = sides-agree dialect before h.1
sides-agree dialect (BareCard set kind column ∷ before) h = sides-agree dialect before h.1
sides-agree dialect (UnknownCard ∷ before) h = sides-agree dialect before h.1

-- ---- ranges
abbrev place_facts : Dialect → List Card → ℕ → RowKind × Number
place_facts dialect cards i = (row_kind cards i, right_side dialect cards i)

abbrev named_facts : Dialect → List Card → Text → RowKind × Number
named_facts dialect cards m = (row_kind_named cards m, unwrap_or (side_named dialect cards m) zero_ℚ)

facts-agree : (dialect : Dialect) (cards : List Card) → IsFaultless dialect cards → (i : ℕ) → i < length (row_names cards) → place_facts dialect cards i ≡ named_facts dialect cards (field (row_names cards) i)
facts-agree dialect cards h i lt =
    ap₂ (λ (k : RowKind) (s : Option Number). (k, unwrap_or s zero_ℚ)) ((kinds-agree dialect cards h).within i lt) ((sides-agree dialect cards h).within i lt)

pair_range-agrees : (dialect : Dialect) (cards : List Card) (at : ℕ → Option Interval) (named : Text → Option Interval) (pair : Pair) → IsFaultless dialect cards → is_none (place pair.row (row_names cards)) ≡ false
    → Agree None (row_names cards) at named → Agree None (row_names cards) (λ i. pair_range dialect cards i pair (at i)) (λ m. pair_range_named dialect cards m pair (named m))
pair_range-agrees dialect cards at named pair h known a =
    agree_step None (row_names cards) at named (λ (x : RowKind × Number) b y. cond b (interval_in x.0 x.1 (number_on dialect pair.number)) y) (place_facts dialect cards) (named_facts dialect cards) pair.row (place pair.row (row_names cards))
    (λ x y. refl) (facts-agree dialect cards h) (rows-numbered dialect cards h) refl known a

pairs_range-agree : (dialect : Dialect) (cards : List Card) (at : ℕ → Option Interval) (named : Text → Option Interval) (pairs : Pairs) → IsFaultless dialect cards → AreKnown (row_names cards) pairs
    → Agree None (row_names cards) at named → Agree None (row_names cards) (λ i. pairs_range dialect cards i pairs (at i)) (λ m. pairs_range_named dialect cards m pairs (named m))
pairs_range-agree dialect cards at named (One pair) h known a = pair_range-agrees dialect cards at named pair h known a
pairs_range-agree dialect cards at named (Two pair other) h known a =
    let both = or_parts _ _ known in
    pair_range-agrees dialect cards (λ i. pair_range dialect cards i pair (at i)) (λ m. pair_range_named dialect cards m pair (named m)) other h both.1 (pair_range-agrees dialect cards at named pair h both.0 a)

pub ranges-agree : (dialect : Dialect) (cards : List Card) → IsFaultless dialect cards → Agree None (row_names cards) (λ i. range_of dialect cards i) (λ row. range_named dialect cards row)
ranges-agree dialect [] h = record { within = λ i lt. refl; past = λ i l. refl; unknown = λ m l. refl }
ranges-agree dialect (RowCard kind name ∷ before) h =
    agree_push None (row_names before) (λ i. range_of dialect before i) (λ m. range_named dialect before m) name (is_new _ (sound dialect before (RowCard kind name) h.0).row_again) (ranges-agree dialect before h.1)
ranges-agree dialect (MarkerCard word ∷ before) h = ranges-agree dialect before h.1
ranges-agree dialect (ColumnCard name pairs ∷ before) h = ranges-agree dialect before h.1
ranges-agree dialect (SideCard set pairs ∷ before) h = ranges-agree dialect before h.1
ranges-agree dialect (RangeCard set pairs ∷ before) h = by (counts (range_set before) set) (sound dialect before (RangeCard set pairs) h.0).unknown_row (ranges-agree dialect before h.1)
  where
    by : (b : Bool) → (b && either (λ pair. is_none (place pair.row (row_names before))) pairs) ≡ false → Agree None (row_names before) (λ i. range_of dialect before i) (λ m. range_named dialect before m)
        → Agree None (row_names before) (λ i. cond b (pairs_range dialect before i pairs (range_of dialect before i)) (range_of dialect before i)) (λ m. cond b (pairs_range_named dialect before m pairs (range_named dialect before m)) (range_named dialect before m))
    by true known a = pairs_range-agree dialect before (λ i. range_of dialect before i) (λ m. range_named dialect before m) pairs h.1 known a
    by false known a = a
ranges-agree dialect (ValuedCard set kind column number ∷ before) h = ranges-agree dialect before h.1
ranges-agree dialect (BareCard set kind column ∷ before) h = ranges-agree dialect before h.1
ranges-agree dialect (UnknownCard ∷ before) h = ranges-agree dialect before h.1
