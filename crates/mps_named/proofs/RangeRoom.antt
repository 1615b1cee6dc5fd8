-- The sides of rows can be written.
use Rattle.std.proofs.Common.{◌≡◌, ℕ, ◌<◌, T, Bool, true, false, not, cond, List, [], ◌∷◌, Option, Some, None, Ok, Err, pos, arith, sym, refl, subst}
use Rattle.std.specs.Prelude.{Result, nat_lt, ◌==◌, ◌&&◌, ◌||◌, is_some, is_none, unwrap_or, IfSome}
use Rattle.std.proofs.lemmas.Bool.{or_parts, and_parts}
use Rattle.std.proofs.lemmas.Bool.Decides.{nat_tests}
use Rattle.fractions.specs.Ring.{ring, v, num, ◌:+◌, ◌:-◌, inv}
use Rattle.fractions.specs.Number.{Number, rational, ◌+ℚ◌, ◌-ℚ◌, +ℚ_comm, neg_ℚ, zero_ℚ}
use Rattle.fractions.specs.Order.{non_neg_ℚ, ◌≤ℚ◌, ◌<ℚ◌, ≤ℚ-by, ≤ℚ_refl, <ℚ-≤ℚ}
use Rattle.fractions.specs.Compare.{lt_ℚ}
use Rattle.fractions.specs.FracWords.{SumFits}
use Rattle.fractions.specs.declared.Numbers.{Numbers}
use Rattle.number_texts.specs.declared.reading.ReadNumber.{ReadNumber}
use Rattle.names.specs.Names.{place}
use Rattle.mps_profile.specs.Texts.{Text}
use Rattle.mps_profile.specs.Cards.{Pair, Pairs, One, Two, either, Card, RowCard, MarkerCard, ColumnCard, SideCard, RangeCard, ValuedCard, BareCard, UnknownCard}
use Rattle.mps_profile.specs.Numerals.{number_on}
use Rattle.mps_profile.specs.Sides.{magnitude, upward, downward, ranged, sides_of, sum_fits, is_past_sum, is_past_range}
use Rattle.mps_profile.specs.Sets.{counts, side_set, range_set}
use Rattle.mps_profile.specs.Rows.{row_names, row_kind, is_at, names_row, pair_value, pairs_value, side_of, right_side, value_in, interval_in, pair_range, pairs_range, range_of}
use Rattle.mps_profile.specs.CardFaults.{at_place, past_side, past_range, past_ranges, has_range, is_doubled}
use Rattle.mps_profile.specs.declared.dialect.Dialect.{Dialect}
use Rattle.mps_profile.specs.declared.row_kinds.Interval.{Interval}
use Rattle.mps_profile.specs.declared.row_kinds.RowKind.{RowKind}
use Rattle.mps_profile.specs.declared.row_kinds.RowKind.TheVariants.{Free, AtMost, AtLeast, Equal}
use Rattle.mps_laws.specs.Faultless.{IsFaultless}
use Rattle.lp_model.specs.Writable.{WritableNumber, WritablePair, WritableSides}
use Rattle.mps_named.proofs.SumsBack.{sum-turned, sum-back, sum-Fits}
use Rattle.mps_named.proofs.NumberRoom.{from_test, has_room, negative, none, on-number, value-number}
use Rattle.mps_named.proofs.CardSense.{ranges-fit, sound}

-- ---- a sum that is not past
below : (a b : ℕ) → nat_lt a b ≡ true → a < b
below a b e = grind (arith, nat_tests)

sum_fits-is : (p q : Number) → sum_fits p q ≡ true → SumFits p q
unfolding sum_fits
sum_fits-is p q e =
    let a = and_parts _ _ e in
    let b = and_parts _ _ a.0 in
    let c = and_parts _ _ b.0 in
    record { left = below _ _ c.0; right = below _ _ c.1; sum = below _ _ b.1; under = below _ _ a.1 }

not_not : (x : Bool) → not x ≡ false → x ≡ true
not_not true e = refl
not_not false e = cc

sum_with_room : (numbers : Numbers) (p q : Number) → is_past_sum numbers p q ≡ false → SumFits p q × WritableNumber numbers (p +ℚ q)
sum_with_room numbers p q e =
    let a = or_parts _ _ e in
    let s : SumFits p q = sum_fits-is p q (not_not _ a.0) in
    (s, from_test numbers (p +ℚ q) (sum-Fits p q s) (not_not _ a.1))

-- ---- the sides of a range
pub upward-pair : (numbers : Numbers) (b m : Number) → zero_ℚ ≤ℚ m → WritableNumber numbers b → WritableNumber numbers m → is_past_sum numbers b m ≡ false
    → WritablePair numbers b (b +ℚ m)
upward-pair numbers b m h wb wm e =
    let room = sum_with_room numbers b m e in
    let width : m ≡ b +ℚ m -ℚ b = ring rational (b ∷ m ∷ []) (v 1) (v 0 :+ v 1 :- v 0) refl in
    record {
      lower_number = wb;
      upper_number = room.1;
      ascends = ≤ℚ-by zero_ℚ m b (b +ℚ m) (ring rational (b ∷ m ∷ []) (v 1 :- num (pos 0)) (v 0 :+ v 1 :- v 0) refl) h;
      width = λ differ. record {
        width_fits = subst (λ (s : Number). SumFits s (neg_ℚ b)) (+ℚ_comm m b) (sum-back m b (has_room numbers m wm) (sum-turned b m room.0));
        sum_fits = subst (SumFits b) width room.0;
        width = subst (WritableNumber numbers) width wm;
      };
    }

pub downward-pair : (numbers : Numbers) (b m : Number) → zero_ℚ ≤ℚ m → WritableNumber numbers b → WritableNumber numbers m → is_past_sum numbers b (neg_ℚ m) ≡ false
    → WritablePair numbers (b -ℚ m) b
downward-pair numbers b m h wb wm e =
    let room = sum_with_room numbers b (neg_ℚ m) e in
    let width : m ≡ b -ℚ (b -ℚ m) = ring rational (b ∷ m ∷ []) (v 1) (v 0 :- (v 0 :- v 1)) refl in
    let back : SumFits (b -ℚ m) m = subst (SumFits (b -ℚ m)) (ring rational (m ∷ []) (inv (inv (v 0))) (v 0) refl) (sum-back b (neg_ℚ m) (has_room numbers b wb) room.0) in
    record {
      lower_number = room.1;
      upper_number = wb;
      ascends = ≤ℚ-by zero_ℚ m (b -ℚ m) b (ring rational (b ∷ m ∷ []) (v 1 :- num (pos 0)) (v 0 :- (v 0 :- v 1)) refl) h;
      width = λ differ. record {
        width_fits = subst (λ (s : Number). SumFits s (neg_ℚ (b -ℚ m))) (ring rational (b ∷ m ∷ []) (v 1 :+ (v 0 :- v 1)) (v 0) refl)
            (sum-back m (b -ℚ m) (has_room numbers m wm) (sum-turned (b -ℚ m) m back));
        sum_fits = subst (SumFits (b -ℚ m)) width back;
        width = subst (WritableNumber numbers) width wm;
      };
    }

magnitude-room : (numbers : Numbers) (r : Number) → WritableNumber numbers r → (zero_ℚ ≤ℚ magnitude r) × WritableNumber numbers (magnitude r)
magnitude-room numbers r w = by (non_neg_ℚ (r -ℚ zero_ℚ)) refl
  where
    by : (b : Bool) → non_neg_ℚ (r -ℚ zero_ℚ) ≡ b → (zero_ℚ ≤ℚ cond (not b) (neg_ℚ r) r) × WritableNumber numbers (cond (not b) (neg_ℚ r) r)
    by true e = (record { le = subst T (sym e) tt }, w)
    by false e =
        let under : r <ℚ zero_ℚ = record { lt = subst (λ (t : Bool). T (not t)) (sym e) tt } in
        (≤ℚ-by r zero_ℚ zero_ℚ (neg_ℚ r) (ring rational (r ∷ []) (num (pos 0) :- v 0) (inv (v 0) :- num (pos 0)) refl) (<ℚ-≤ℚ under), negative numbers r w)

abbrev pub IsRoomy : Numbers → Interval → Type 0
IsRoomy numbers range = WritablePair numbers range.lower range.upper

ranged-room : (numbers : Numbers) (kind : RowKind) (b r : Number) → WritableNumber numbers b → WritableNumber numbers r → is_past_range numbers kind b r ≡ false
    → IfSome (ranged kind b r) (IsRoomy numbers)
ranged-room numbers Free b r wb wr e = tt
ranged-room numbers AtMost b r wb wr e = let m = magnitude-room numbers r wr in downward-pair numbers b (magnitude r) m.0 wb m.1 e
ranged-room numbers AtLeast b r wb wr e = let m = magnitude-room numbers r wr in upward-pair numbers b (magnitude r) m.0 wb m.1 e
ranged-room numbers Equal b r wb wr e = by (lt_ℚ r zero_ℚ) e
  where
    by : (x : Bool) → is_past_sum numbers b (cond x (neg_ℚ (magnitude r)) (magnitude r)) ≡ false → IsRoomy numbers (cond x (downward b r) (upward b r))
    by true h = let m = magnitude-room numbers r wr in downward-pair numbers b (magnitude r) m.0 wb m.1 h
    by false h = let m = magnitude-room numbers r wr in upward-pair numbers b (magnitude r) m.0 wb m.1 h

-- ---- the numbers of pairs
pair-number : (dialect : Dialect) (rows : List Text) (i : ℕ) (pair : Pair) (earlier : Option Number) → IfSome earlier (WritableNumber dialect.numbers)
    → IfSome (pair_value dialect rows i pair earlier) (WritableNumber dialect.numbers)
pair-number dialect rows i pair earlier h = by (names_row rows i pair)
  where
    by : (b : Bool) → IfSome (cond b (value_in (number_on dialect pair.number)) earlier) (WritableNumber dialect.numbers)
    by true = value-number dialect pair.number
    by false = h

pub pairs-number : (dialect : Dialect) (rows : List Text) (i : ℕ) (pairs : Pairs) (earlier : Option Number) → IfSome earlier (WritableNumber dialect.numbers)
    → IfSome (pairs_value dialect rows i pairs earlier) (WritableNumber dialect.numbers)
pairs-number dialect rows i (One pair) earlier h = pair-number dialect rows i pair earlier h
pairs-number dialect rows i (Two pair other) earlier h = pair-number dialect rows i other (pair_value dialect rows i pair earlier) (pair-number dialect rows i pair earlier h)

pub chosen : {X : Type 0} (P : X → Type 0) (b : Bool) (x y : Option X) → IfSome x P → IfSome y P → IfSome (cond b x y) P
chosen P true x y h k = h
chosen P false x y h k = k

-- ---- right sides
side-number : (dialect : Dialect) (cards : List Card) (i : ℕ) → IfSome (side_of dialect cards i) (WritableNumber dialect.numbers)
side-number dialect [] i = tt
side-number dialect (RowCard kind name ∷ before) i = side-number dialect before i
side-number dialect (MarkerCard word ∷ before) i = side-number dialect before i
side-number dialect (ColumnCard name pairs ∷ before) i = side-number dialect before i
side-number dialect (SideCard set pairs ∷ before) i =
    chosen (WritableNumber dialect.numbers) (counts (side_set before) set) (pairs_value dialect (row_names before) i pairs (side_of dialect before i)) (side_of dialect before i)
    (pairs-number dialect (row_names before) i pairs (side_of dialect before i) (side-number dialect before i)) (side-number dialect before i)
side-number dialect (RangeCard set pairs ∷ before) i = side-number dialect before i
side-number dialect (ValuedCard set kind column number ∷ before) i = side-number dialect before i
side-number dialect (BareCard set kind column ∷ before) i = side-number dialect before i
side-number dialect (UnknownCard ∷ before) i = side-number dialect before i

pub or_zero : (numbers : Numbers) (o : Option Number) → IfSome o (WritableNumber numbers) → WritableNumber numbers (unwrap_or o zero_ℚ)
or_zero numbers None h = none numbers
or_zero numbers (Some q) h = h

pub right_side-number : (dialect : Dialect) (cards : List Card) (i : ℕ) → WritableNumber dialect.numbers (right_side dialect cards i)
right_side-number dialect cards i = or_zero dialect.numbers (side_of dialect cards i) (side-number dialect cards i)

-- ---- ranges
not_given : (o : Option Interval) (b : Bool) → is_some o ≡ false → (is_none o && b) ≡ false → b ≡ false
not_given None b e h = h
not_given (Some range) b e h = cc

pair-room : (dialect : Dialect) (before : List Card) (i : ℕ) (pair : Pair) (earlier : Option Interval) → past_range dialect before pair ≡ false → has_range dialect before pair ≡ false
    → IfSome earlier (IsRoomy dialect.numbers) → IfSome (pair_range dialect before i pair earlier) (IsRoomy dialect.numbers)
pair-room dialect before i pair earlier past again h = by_place (place pair.row (row_names before)) (number_on dialect pair.number) refl (or_parts _ _ past).1 again
  where
    by_test : (k : ℕ) (b : Bool) (q : Number) → (k == i) ≡ b → number_on dialect pair.number ≡ Ok q → is_past_range dialect.numbers (row_kind before k) (right_side dialect before k) q ≡ false
        → IfSome (cond b (ranged (row_kind before i) (right_side dialect before i) q) earlier) (IsRoomy dialect.numbers)
    by_test k true q same is fits =
        let e : k ≡ i = grind (arith, nat_tests) in
        subst (λ (n : ℕ). IfSome (ranged (row_kind before n) (right_side dialect before n) q) (IsRoomy dialect.numbers)) e
        (ranged-room dialect.numbers (row_kind before k) (right_side dialect before k) q (right_side-number dialect before k) (on-number dialect pair.number q is) fits)
    by_test k false q same is fits = h

    by_place : (o : Option ℕ) (n : Result Number ReadNumber) → number_on dialect pair.number ≡ n → past_side dialect before o n ≡ false → at_place (λ k. is_some (range_of dialect before k)) o ≡ false
        → IfSome (cond (is_at o i) (interval_in (row_kind before i) (right_side dialect before i) n) earlier) (IsRoomy dialect.numbers)
    by_place None n is fits new = h
    by_place (Some k) (Ok q) is fits new = by_test k (k == i) q refl is (not_given (range_of dialect before k) _ new fits)
    by_place (Some k) (Err fault) is fits new = chosen (IsRoomy dialect.numbers) (k == i) None earlier tt h

pairs-room : (dialect : Dialect) (before : List Card) (i : ℕ) (pairs : Pairs) (earlier : Option Interval) → either (past_range dialect before) pairs ≡ false → either (has_range dialect before) pairs ≡ false
    → IfSome earlier (IsRoomy dialect.numbers) → IfSome (pairs_range dialect before i pairs earlier) (IsRoomy dialect.numbers)
pairs-room dialect before i (One pair) earlier past again h = pair-room dialect before i pair earlier past again h
pairs-room dialect before i (Two pair other) earlier past again h =
    let p = or_parts _ _ past in
    let a = or_parts _ _ again in
    pair-room dialect before i other (pair_range dialect before i pair earlier) p.1 a.1 (pair-room dialect before i pair earlier p.0 a.0 h)

pub range-room : (dialect : Dialect) (cards : List Card) (i : ℕ) → IsFaultless dialect cards → IfSome (range_of dialect cards i) (IsRoomy dialect.numbers)
range-room dialect [] i h = tt
range-room dialect (RowCard kind name ∷ before) i h = range-room dialect before i h.1
range-room dialect (MarkerCard word ∷ before) i h = range-room dialect before i h.1
range-room dialect (ColumnCard name pairs ∷ before) i h = range-room dialect before i h.1
range-room dialect (SideCard set pairs ∷ before) i h = range-room dialect before i h.1
range-room dialect (RangeCard set pairs ∷ before) i h =
    let s = sound dialect before (RangeCard set pairs) h.0 in
    by (counts (range_set before) set) s.past_number s.entry_again (range-room dialect before i h.1)
  where
    by : (b : Bool) → (b && past_ranges dialect before pairs) ≡ false → (b && (either (has_range dialect before) pairs || is_doubled pairs)) ≡ false → IfSome (range_of dialect before i) (IsRoomy dialect.numbers)
        → IfSome (cond b (pairs_range dialect before i pairs (range_of dialect before i)) (range_of dialect before i)) (IsRoomy dialect.numbers)
    by true past again rest =
        let both = or_parts _ _ again in
        pairs-room dialect before i pairs (range_of dialect before i) (ranges-fit dialect before pairs past both.1) both.0 rest
    by false past again rest = rest
range-room dialect (ValuedCard set kind column number ∷ before) i h = range-room dialect before i h.1
range-room dialect (BareCard set kind column ∷ before) i h = range-room dialect before i h.1
range-room dialect (UnknownCard ∷ before) i h = range-room dialect before i h.1

-- ---- both sides
same_sides : (numbers : Numbers) (b : Number) → WritableNumber numbers b → WritablePair numbers b b
same_sides numbers b w = record { lower_number = w; upper_number = w; ascends = ≤ℚ_refl b; width = λ differ. absurd (differ refl) }

pub sides-room : (numbers : Numbers) (kind : RowKind) (b : Number) (range : Option Interval) → WritableNumber numbers b → IfSome range (IsRoomy numbers)
    → IfSome (sides_of kind b range) (λ sides. WritableSides numbers sides.0 sides.1)
sides-room numbers Free b range w h = tt
sides-room numbers AtMost b (Some range) w h = h
sides-room numbers AtLeast b (Some range) w h = h
sides-room numbers Equal b (Some range) w h = h
sides-room numbers AtMost b None w h = w
sides-room numbers AtLeast b None w h = w
sides-room numbers Equal b None w h = same_sides numbers b w
