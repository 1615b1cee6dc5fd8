-- What the written cards of RANGES say.
use Rattle.std.proofs.Common.{◌≡◌, ℕ, ◌+◌, ◌==◌, List, [], ◌∷◌, ◌++◌, map, length, get_or, ◌&&◌, ◌||◌, Bool, true, false, cond, Option, Some, None, Result, Ok, is_some, unwrap_or, refl, sym, ap, ap₂, ◌∙◌, arith, subst, append_assoc}
use Rattle.std.specs.Prelude.{slice_get, codes, flat_map, is_none}
use Rattle.std.specs.List.{AllByRecursion}
use Rattle.std.proofs.lemmas.Bool.{eqb-true}
use Rattle.std.proofs.lemmas.List.{append-nil, map-append, length-map, get_or_at, length_push}
use Rattle.std.proofs.lemmas.Option.{slice_get_past}
use Rattle.fractions.specs.Number.{Number, zero_ℚ, ◌+ℚ◌, ◌-ℚ◌}
use Rattle.fractions.specs.Order.{◌≤ℚ◌}
use Rattle.fractions.specs.Compare.{eq_ℚ}
use Rattle.fractions.specs.FracWords.{SumFits}
use Rattle.fractions.specs.declared.Numbers.{Numbers}
use Rattle.number_texts.specs.Written.{written}
use Rattle.number_texts.specs.Read.{is_taken}
use Rattle.number_texts.specs.declared.reading.ReadNumber.{ReadNumber}
use Rattle.names.specs.Names.{place}
use Rattle.lp_model.specs.declared.program.RowDef.{RowDef}
use Rattle.lp_model.specs.Names.{names_of_rows}
use Rattle.mps_profile.specs.Texts.{Text}
use Rattle.mps_profile.specs.Numerals.{number_on}
use Rattle.mps_profile.specs.Cards.{Card}
use Rattle.mps_profile.specs.Sets.{counts, range_set, or_first}
use Rattle.mps_profile.specs.Sides.{is_past_range, is_past_sum}
use Rattle.mps_profile.specs.Rows.{row_names, row_kinds, row_kind, is_free, is_at, side_of, right_side, interval_in, range_of}
use Rattle.mps_profile.specs.CardFaults.{card_fault, is_bad, is_past, past_side, at_place}
use Rattle.mps_profile.specs.declared.dialect.Dialect.{Dialect}
use Rattle.mps_profile.specs.declared.row_kinds.Interval.{Interval}
use Rattle.mps_profile.specs.declared.row_kinds.RowKind.{RowKind}
use Rattle.mps_profile.specs.declared.row_kinds.RowKind as kinds
use Rattle.mps_profile.specs.declared.faults.MpsFaultKind.TheVariants.{BadNumber, UnknownRow, DuplicateEntry, RangeOnFree}
use Rattle.mps_profile.specs.declared.faults.MpsFaultKind as faults
use Rattle.mps_writer.specs.declared.rows.RowType.TheVariants.{Equal, AtLeast}
use Rattle.mps_writer.specs.Sections.{right_side_by, type_by}
use Rattle.mps_laws.specs.Faultless.{IsFaultless}
use Rattle.mps_laws.specs.Names.{IsNumbered}
use Rattle.mps_written_lines.specs.Formats.{free_format}
use Rattle.mps_written_lines.specs.Written.{range_written, range_by, ranges_written, onto}
use Rattle.mps_written_cards.proofs.Segments.{onto_append}
use Rattle.mps_written_cards.proofs.Places.{next_place}
use Rattle.mps_written_cards.proofs.Numerals.{IsRead}
use Rattle.mps_written_cards.proofs.Arithmetic.{or_zero, width_magnitude, sum_back, not_past}
use Rattle.mps_written_cards.proofs.RowCards.{kind_by, kind_of}
use Rattle.mps_written_cards.proofs.ColumnCards.{get_push}
use Rattle.mps_written_cards.proofs.SideCards.{side_told}

abbrev pub interval : Number → Number → Interval
interval l u = record { lower = l; upper = u }

-- the two sides of a row, where they are finite and differ
abbrev pub interval_by : Option Number → Option Number → Option Interval
interval_by (Some l) (Some u) = cond (eq_ℚ l u) None (Some (interval l u))
interval_by (Some l) None = None
interval_by None upper = None

abbrev pub range_told : Option RowDef → Option Interval
range_told None = None
range_told (Some row) = interval_by row.lower row.upper

-- a width can be read, and the upper side with it
pub record HasWidth (numbers : Numbers) (l u : Number) : Type 0 where
  pub read : IsRead numbers (u -ℚ l)
  pub fits : SumFits l (u -ℚ l)
  pub above : l ≤ℚ u
  pub taken : is_taken numbers u ≡ true

abbrev pub WidthIn : Numbers → Option Number → Option Number → Type 0
WidthIn numbers (Some l) (Some u) = eq_ℚ l u ≡ false → HasWidth numbers l u
WidthIn numbers (Some l) None = Unit {0}
WidthIn numbers None upper = Unit {0}

-- the cards say these ranges
pub record Ranged (numbers : Numbers) (rows : List Text) (kind_list : List RowKind) (all : List RowDef) (done : List RowDef) (before : List Card) : Type 0 where
  pub rows_are : row_names before ≡ rows
  pub kinds_are : row_kinds before ≡ kind_list
  pub sides : (i : ℕ) → side_of (free_format numbers) before i ≡ side_told (slice_get all i)
  pub set_is : counts (range_set before) (Some (codes "RNG")) ≡ true
  pub ranges : (i : ℕ) → range_of (free_format numbers) before i ≡ range_told (slice_get done i)
  pub sound : IsFaultless (free_format numbers) before

same_set_counts : (o : Option (Option (List ℕ))) → counts o (Some (codes "RNG")) ≡ true → counts (or_first o (Some (codes "RNG"))) (Some (codes "RNG")) ≡ true
same_set_counts None is = refl
same_set_counts (Some first) is = is

get_at : {X : Type 0} (xs : List X) (x : X) (ys : List X) → slice_get (xs ++ x ∷ ys) (length xs) ≡ Some x
get_at [] x ys = refl
get_at (z ∷ zs) x ys = get_at zs x ys

module _ (numbers : Numbers) (rows : List Text) (kind_list : List RowKind) (all : List RowDef) where
  abbrev d : Dialect
  d = free_format numbers

  -- what a pair of RANGES says of a row of the type at least
  pub made_interval : (l u : Number) → HasWidth numbers l u → interval_in kinds.TheVariants.AtLeast l (Ok (u -ℚ l)) ≡ Some (interval l u)
  made_interval l u has = ap (λ (w : Number). Some (interval l (l +ℚ w))) (width_magnitude l u has.above) ∙ ap (λ (w : Number). Some (interval l w)) (sum_back l u)

  range_one : (before : List Card) (name : Text) (l u : Number) (n i : ℕ) → counts (range_set before) (Some (codes "RNG")) ≡ true → place name (row_names before) ≡ Some n
      → row_kind before n ≡ kinds.TheVariants.AtLeast → right_side d before n ≡ l → HasWidth numbers l u
      → range_of d ((range_written name (u -ℚ l)).card ∷ before) i ≡ cond (n == i) (Some (interval l u)) (range_of d before i)
  range_one before name l u n i set at kind side has =
      ap (λ (c : Bool). cond c (cond (is_at (place name (row_names before)) i) (interval_in (row_kind before i) (right_side d before i) (number_on d (written (u -ℚ l)))) (range_of d before i)) (range_of d before i)) set
      ∙ ap₂ (λ (o : Option ℕ) (r : Result Number ReadNumber). cond (is_at o i) (interval_in (row_kind before i) (right_side d before i) r) (range_of d before i)) at has.read.again
      ∙ by_test (n == i) refl
    where
      by_test : (b : Bool) → (n == i) ≡ b → cond b (interval_in (row_kind before i) (right_side d before i) (Ok (u -ℚ l))) (range_of d before i) ≡ cond b (Some (interval l u)) (range_of d before i)
      by_test true here =
          ap (λ (k : ℕ). interval_in (row_kind before k) (right_side d before k) (Ok (u -ℚ l))) (sym (eqb-true n i here))
          ∙ ap₂ (λ (t : RowKind) (s : Number). interval_in t s (Ok (u -ℚ l))) kind side ∙ made_interval l u has
      by_test false here = refl

  range_not_past : (l u : Number) → HasWidth numbers l u → is_past_range numbers kinds.TheVariants.AtLeast l (u -ℚ l) ≡ false
  range_not_past l u has =
      ap (λ (w : Number). is_past_sum numbers l w) (width_magnitude l u has.above)
      ∙ not_past numbers l (u -ℚ l) has.fits (ap (is_taken numbers) (sum_back l u) ∙ has.taken)

  range_sound : (before : List Card) (name : Text) (l u : Number) (n : ℕ) → counts (range_set before) (Some (codes "RNG")) ≡ true → place name (row_names before) ≡ Some n
      → row_kind before n ≡ kinds.TheVariants.AtLeast → right_side d before n ≡ l → HasWidth numbers l u → range_of d before n ≡ None
      → card_fault d before (range_written name (u -ℚ l)).card ≡ None
  range_sound before name l u n set at kind side has free =
      ap₂ (λ (c : Bool) (r : Result Number ReadNumber).
      cond (c && is_bad r) (Some BadNumber) (cond (c && (is_past r || past_side d before (place name (row_names before)) r)) (Some faults.TheVariants.NumberPast)
      (cond (c && is_none (place name (row_names before))) (Some UnknownRow)
      (cond (c && (at_place (λ k. is_some (range_of d before k)) (place name (row_names before)) || false)) (Some DuplicateEntry)
      (cond (c && at_place (λ k. is_free (row_kind before k)) (place name (row_names before))) (Some RangeOnFree) None))))) set has.read.again
      ∙ ap (λ (o : Option ℕ). cond (past_side d before o (Ok (u -ℚ l))) (Some faults.TheVariants.NumberPast) (cond (is_none o) (Some UnknownRow)
      (cond (at_place (λ k. is_some (range_of d before k)) o || false) (Some DuplicateEntry) (cond (at_place (λ k. is_free (row_kind before k)) o) (Some RangeOnFree) None)))) at
      ∙ ap₂ (λ (g : Option Interval) (t : RowKind). cond (is_none g && is_past_range numbers t (right_side d before n) (u -ℚ l)) (Some faults.TheVariants.NumberPast)
      (cond (is_some g || false) (Some DuplicateEntry) (cond (is_free t) (Some RangeOnFree) None))) free kind
      ∙ ap (λ (s : Number). cond (is_past_range numbers kinds.TheVariants.AtLeast s (u -ℚ l)) (Some faults.TheVariants.NumberPast) None) side
      ∙ ap (λ (b : Bool). cond b (Some faults.TheVariants.NumberPast) None) (range_not_past l u has)

  without_range : (done : List RowDef) (before : List Card) (row : RowDef) → interval_by row.lower row.upper ≡ None → Ranged numbers rows kind_list all done before
      → Ranged numbers rows kind_list all (done ++ row ∷ []) before
  without_range done before row is said = record {
    rows_are = said.rows_are;
    kinds_are = said.kinds_are;
    sides = said.sides;
    set_is = said.set_is;
    ranges = λ i. same i (length done == i) refl ∙ ap range_told (sym (get_push done row i));
    sound = said.sound;
  }
    where
      same : (i : ℕ) (b : Bool) → (length done == i) ≡ b → range_of d before i ≡ range_told (cond b (Some row) (slice_get done i))
      same i true here = said.ranges i ∙ ap range_told (slice_get_past done i (omega (arith, eqb-true (length done) i here))) ∙ sym is
      same i false here = said.ranges i

  with_range : (done : List RowDef) (before : List Card) (row : RowDef) (l u : Number) → interval_by row.lower row.upper ≡ Some (interval l u) → Ranged numbers rows kind_list all done before
      → place row.name rows ≡ Some (length done) → row_kind before (length done) ≡ kinds.TheVariants.AtLeast → right_side d before (length done) ≡ l → HasWidth numbers l u
      → Ranged numbers rows kind_list all (done ++ row ∷ []) ((range_written row.name (u -ℚ l)).card ∷ before)
  with_range done before row l u is said at kind side has =
      let known : place row.name (row_names before) ≡ Some (length done) = ap (place row.name) said.rows_are ∙ at in
      record {
        rows_are = said.rows_are;
        kinds_are = said.kinds_are;
        sides = said.sides;
        set_is = same_set_counts (range_set before) said.set_is;
        ranges = λ i. range_one before row.name l u (length done) i said.set_is known kind side has ∙ one_more i (length done == i) ∙ ap range_told (sym (get_push done row i));
        sound = (
          range_sound before row.name l u (length done) said.set_is known kind side has
              (said.ranges (length done) ∙ ap range_told (slice_get_past done (length done) (omega arith))),
          said.sound,
        );
      }
    where
      one_more : (i : ℕ) (b : Bool) → cond b (Some (interval l u)) (range_of d before i) ≡ range_told (cond b (Some row) (slice_get done i))
      one_more i true = sym is
      one_more i false = said.ranges i

  range_by_ends : (done : List RowDef) (before : List Card) (row : RowDef) (lower upper : Option Number) → row.lower ≡ lower → row.upper ≡ upper → Ranged numbers rows kind_list all done before
      → place row.name rows ≡ Some (length done) → row_kind before (length done) ≡ kind_of row → side_of d before (length done) ≡ side_told (Some row) → WidthIn numbers lower upper
      → Ranged numbers rows kind_list all (done ++ row ∷ []) (onto before (range_by row.name lower upper))
  range_by_ends done before row None upper lo up said at kind side has = without_range done before row (ap₂ interval_by lo up) said
  range_by_ends done before row (Some l) None lo up said at kind side has = without_range done before row (ap₂ interval_by lo up) said
  range_by_ends done before row (Some l) (Some u) lo up said at kind side has = by_test (eq_ℚ l u) refl
    where
      by_test : (b : Bool) → eq_ℚ l u ≡ b → Ranged numbers rows kind_list all (done ++ row ∷ []) (onto before (cond b [] (range_written row.name (u -ℚ l) ∷ [])))
      by_test true is = without_range done before row (ap₂ interval_by lo up ∙ ap (λ (t : Bool). cond t None (Some (interval l u))) is) said
      by_test false is =
          with_range done before row l u (ap₂ interval_by lo up ∙ ap (λ (t : Bool). cond t None (Some (interval l u))) is) said at
          (kind ∙ ap₂ (λ (a b : Option Number). kind_by (type_by a b)) lo up ∙ ap (λ (t : Bool). kind_by (cond t Equal AtLeast)) is)
          (ap (λ (o : Option Number). unwrap_or o zero_ℚ) side ∙ or_zero (right_side_by row.lower row.upper) ∙ ap₂ (λ (a b : Option Number). unwrap_or (right_side_by a b) zero_ℚ) lo up)
          (has is)

  pub ranges_run : (more done : List RowDef) (kinds_done : List RowKind) (before : List Card) → Ranged numbers rows kind_list all done before → IsNumbered rows
      → rows ≡ names_of_rows (done ++ more) → all ≡ done ++ more → length kinds_done ≡ length done → kind_list ≡ kinds_done ++ map kind_of more
      → AllByRecursion (λ (row : RowDef). WidthIn numbers row.lower row.upper) more
      → Ranged numbers rows kind_list all (done ++ more) (onto before (flat_map ranges_written more))
  ranges_run [] done kinds_done before said each are all_are long kinds_are widths = subst (λ (of : List RowDef). Ranged numbers rows kind_list all of before) (sym (append-nil done)) said
  ranges_run (row ∷ more) done kinds_done before said each are all_are long kinds_are widths =
      let same : done ++ (row ∷ more) ≡ (done ++ row ∷ []) ++ more = sym (append_assoc done (row ∷ []) more) in
      let names : rows ≡ names_of_rows done ++ row.name ∷ names_of_rows more = are ∙ map-append (λ (r : RowDef). r.name) done (row ∷ more) in
      let at : place row.name rows ≡ Some (length done) =
      ap (place row.name) names ∙ next_place (names_of_rows done) (names_of_rows more) row.name (subst IsNumbered names each) ∙ ap (λ (k : ℕ). Some k) (length-map done (λ (r : RowDef). r.name)) in
      let kind : row_kind before (length done) ≡ kind_of row =
      ap (λ (ks : List RowKind). get_or ks (length done) kinds.TheVariants.Free) (said.kinds_are ∙ kinds_are)
      ∙ get_or_at kinds_done (kind_of row) (map kind_of more) kinds.TheVariants.Free (length done) long in
      let side : side_of d before (length done) ≡ side_told (Some row) =
      said.sides (length done) ∙ ap (λ (rs : List RowDef). side_told (slice_get rs (length done))) all_are ∙ ap side_told (get_at done row more) in
      subst (λ (after : List Card). Ranged numbers rows kind_list all (done ++ (row ∷ more)) after) (sym (onto_append before (ranges_written row) (flat_map ranges_written more)))
      (subst (λ (of : List RowDef). Ranged numbers rows kind_list all of (onto (onto before (ranges_written row)) (flat_map ranges_written more))) (sym same)
      (ranges_run more (done ++ row ∷ []) (kinds_done ++ kind_of row ∷ []) (onto before (ranges_written row))
      (range_by_ends done before row row.lower row.upper refl refl said at kind side widths.0) each (are ∙ ap names_of_rows same) (all_are ∙ same)
      (length_push kinds_done (kind_of row) ∙ ap (λ (k : ℕ). k + 1) long ∙ sym (length_push done row))
      (kinds_are ∙ sym (append_assoc kinds_done (kind_of row ∷ []) (map kind_of more))) widths.1))
