-- What the written cards of BOUNDS say.
use Rattle.std.proofs.Common.{◌≡◌, ℕ, ◌==◌, List, [], ◌∷◌, ◌++◌, map, length, not, ◌&&◌, ◌||◌, Bool, true, false, cond, Option, Some, None, Result, Ok, unwrap_or, refl, sym, ap, ap₂, ◌∙◌, arith, subst, append_assoc}
use Rattle.std.specs.Prelude.{slice_get, codes, flat_map, is_none}
use Rattle.std.specs.List.{AllByRecursion}
use Rattle.std.proofs.lemmas.Bool.{eqb-true, and_parts, not-true}
use Rattle.std.proofs.lemmas.List.{append-nil, map-append, length-map}
use Rattle.std.proofs.lemmas.Option.{slice_get_past}
use Rattle.fractions.specs.Number.{Number, zero_ℚ}
use Rattle.fractions.specs.Compare.{eq_ℚ}
use Rattle.fractions.specs.Comparisons.{eq_ℚ-is}
use Rattle.fractions.specs.declared.Numbers.{Numbers}
use Rattle.number_texts.specs.Written.{written}
use Rattle.number_texts.specs.declared.reading.ReadNumber.{ReadNumber}
use Rattle.names.specs.Names.{place}
use Rattle.lp_model.specs.declared.program.ColumnDef.{ColumnDef}
use Rattle.lp_model.specs.Names.{names_of_columns}
use Rattle.mps_profile.specs.Texts.{Text}
use Rattle.mps_profile.specs.Cards.{Card, ValuedCard}
use Rattle.mps_profile.specs.Numerals.{limit_on}
use Rattle.mps_profile.specs.Sets.{counts, bound_set, or_first}
use Rattle.mps_profile.specs.Sides.{default_lower}
use Rattle.mps_profile.specs.Bounds.{valued_change, bare_change, sets_lower, sets_upper, sets_both}
use Rattle.mps_profile.specs.Rows.{is_at}
use Rattle.mps_profile.specs.Columns.{column_names, change_at, change_in, lower_in, upper_in, makes_whole, makes_semi, or_before, last_kind, semi_upper_in, lower_of, upper_of, semi_upper_of, lower_under, is_whole, is_semi}
use Rattle.mps_profile.specs.CardFaults.{card_fault, bad_limit, is_past}
use Rattle.mps_profile.specs.declared.dialect.Dialect.{Dialect}
use Rattle.mps_profile.specs.declared.bounds.Change.{Change}
use Rattle.mps_profile.specs.declared.bounds.Limit.{Limit}
use Rattle.mps_profile.specs.declared.bounds.Limit.TheVariants.{At, Above}
use Rattle.mps_profile.specs.declared.bounds.Valued.{Valued}
use Rattle.mps_profile.specs.declared.bounds.Valued.TheVariants.{Lower, Upper, Fixed, SemiContinuous}
use Rattle.mps_profile.specs.declared.bounds.Bare.{Bare}
use Rattle.mps_profile.specs.declared.bounds.Bare.TheVariants.{Free, NoLower, NoUpper}
use Rattle.mps_profile.specs.declared.faults.MpsFaultKind.TheVariants.{BadNumber, UnknownColumn}
use Rattle.mps_profile.specs.declared.faults.MpsFaultKind as faults
use Rattle.mps_writer.specs.Sections.{is_below_zero}
use Rattle.mps_laws.specs.Faultless.{IsFaultless}
use Rattle.mps_laws.specs.Names.{IsNumbered}
use Rattle.mps_written_lines.specs.Formats.{free_format}
use Rattle.lp_model.specs.Writable.{WritableBound}
use Rattle.mps_written_lines.specs.Written.{WrittenCard, valued_written, bare_written, lower_written, upper_written, ends_written, bounds_by, semi_lower_written, semi_upper_written, semi_written, bounds_written, onto}
use Rattle.mps_written_cards.proofs.Segments.{onto_append, all_append}
use Rattle.mps_written_cards.proofs.Places.{next_place}
use Rattle.mps_written_cards.proofs.Numerals.{limit_read, infinite_read}
use Rattle.mps_written_cards.proofs.EntryCards.{same_cond}
use Rattle.mps_written_cards.proofs.ColumnCards.{get_push}

-- a card of BOUNDS, and what it sets
pub record Setting : Type 0 where
  pub card : WrittenCard
  pub change : Change

abbrev valued : Valued → Text → Number → Change → Setting
valued kind name q change = record { card = valued_written kind name q; change = change }

abbrev bare : Bare → Text → Setting
bare kind name = record { card = bare_written kind name; change = bare_change kind }

abbrev lower_settings : Text → Option Number → Option Number → List Setting
lower_settings name None upper = bare NoLower name ∷ []
lower_settings name (Some q) upper = cond (eq_ℚ q zero_ℚ && not (is_below_zero upper)) [] (valued Lower name q (sets_lower false (Some q)) ∷ [])

abbrev upper_settings : Text → Bool → Option Number → List Setting
upper_settings name whole None = cond whole (bare NoUpper name ∷ []) []
upper_settings name whole (Some q) = valued Upper name q (sets_upper false false (Some q)) ∷ []

abbrev ends_settings : Text → Bool → Option Number → Option Number → List Setting
ends_settings name whole lower upper = lower_settings name lower upper ++ upper_settings name whole upper

abbrev settings_by : Text → Bool → Option Number → Option Number → List Setting
settings_by name whole None None = bare Free name ∷ []
settings_by name whole None (Some u) = ends_settings name whole None (Some u)
settings_by name whole (Some l) None = ends_settings name whole (Some l) None
settings_by name whole (Some l) (Some u) = cond (eq_ℚ l u) (valued Fixed name l (sets_both (Some l)) ∷ []) (ends_settings name whole (Some l) (Some u))

abbrev semi_lower_settings : Text → Option Number → List Setting
semi_lower_settings name None = bare NoLower name ∷ []
semi_lower_settings name (Some q) = cond (eq_ℚ q zero_ℚ) [] (valued Lower name q (sets_lower false (Some q)) ∷ [])

abbrev semi_upper_setting : Text → Option Number → Setting
semi_upper_setting name upper = record { card = semi_upper_written name upper; change = sets_upper false true upper }

abbrev semi_settings : Text → Option Number → Option Number → List Setting
semi_settings name lower upper = semi_lower_settings name lower ++ semi_upper_setting name upper ∷ []

abbrev settings_of : ColumnDef → List Setting
settings_of c = cond c.semi (semi_settings c.name c.lower c.upper) (settings_by c.name c.whole c.lower c.upper)

abbrev cards_of : List Setting → List WrittenCard
cards_of ss = map (λ (s : Setting). s.card) ss

lower_cards : (name : Text) (lower upper : Option Number) → lower_written name lower upper ≡ cards_of (lower_settings name lower upper)
lower_cards name None upper = refl
lower_cards name (Some q) upper = by_test (eq_ℚ q zero_ℚ && not (is_below_zero upper))
  where
    by_test : (b : Bool) → cond b [] (valued_written Lower name q ∷ []) ≡ cards_of (cond b [] (valued Lower name q (sets_lower false (Some q)) ∷ []))
    by_test true = refl
    by_test false = refl

upper_cards : (name : Text) (whole : Bool) (upper : Option Number) → upper_written name whole upper ≡ cards_of (upper_settings name whole upper)
upper_cards name true None = refl
upper_cards name false None = refl
upper_cards name whole (Some q) = refl

ends_cards : (name : Text) (whole : Bool) (lower upper : Option Number) → lower_written name lower upper ++ upper_written name whole upper ≡ cards_of (ends_settings name whole lower upper)
ends_cards name whole lower upper =
    ap₂ (λ (a b : List WrittenCard). a ++ b) (lower_cards name lower upper) (upper_cards name whole upper)
    ∙ sym (map-append (λ (s : Setting). s.card) (lower_settings name lower upper) (upper_settings name whole upper))

bounds_cards_by : (c : ColumnDef) (lower upper : Option Number) → c.lower ≡ lower → c.upper ≡ upper → bounds_by c lower upper ≡ cards_of (settings_by c.name c.whole lower upper)
bounds_cards_by c None None lo up = refl
bounds_cards_by c None (Some u) lo up = ap₂ (λ (l h : Option Number). lower_written c.name l h ++ upper_written c.name c.whole h) lo up ∙ ends_cards c.name c.whole None (Some u)
bounds_cards_by c (Some l) None lo up = ap₂ (λ (l h : Option Number). lower_written c.name l h ++ upper_written c.name c.whole h) lo up ∙ ends_cards c.name c.whole (Some l) None
bounds_cards_by c (Some l) (Some u) lo up = by_test (eq_ℚ l u)
  where
    by_test : (b : Bool) → cond b (valued_written Fixed c.name l ∷ []) (ends_written c) ≡ cards_of (cond b (valued Fixed c.name l (sets_both (Some l)) ∷ []) (ends_settings c.name c.whole (Some l) (Some u)))
    by_test true = refl
    by_test false = ap₂ (λ (l h : Option Number). lower_written c.name l h ++ upper_written c.name c.whole h) lo up ∙ ends_cards c.name c.whole (Some l) (Some u)

semi_lower_cards : (name : Text) (lower : Option Number) → semi_lower_written name lower ≡ cards_of (semi_lower_settings name lower)
semi_lower_cards name None = refl
semi_lower_cards name (Some q) = by_test (eq_ℚ q zero_ℚ)
  where
    by_test : (b : Bool) → cond b [] (valued_written Lower name q ∷ []) ≡ cards_of (cond b [] (valued Lower name q (sets_lower false (Some q)) ∷ []))
    by_test true = refl
    by_test false = refl

semi_cards : (name : Text) (lower upper : Option Number) → semi_lower_written name lower ++ semi_upper_written name upper ∷ [] ≡ cards_of (semi_settings name lower upper)
semi_cards name lower upper =
    ap (λ (a : List WrittenCard). a ++ semi_upper_written name upper ∷ []) (semi_lower_cards name lower)
    ∙ sym (map-append (λ (s : Setting). s.card) (semi_lower_settings name lower) (semi_upper_setting name upper ∷ []))

bounds_cards : (c : ColumnDef) → bounds_written c ≡ cards_of (settings_of c)
bounds_cards c = by_test c.semi
  where
    by_test : (b : Bool) → cond b (semi_written c) (bounds_by c c.lower c.upper) ≡ cards_of (cond b (semi_settings c.name c.lower c.upper) (settings_by c.name c.whole c.lower c.upper))
    by_test true = semi_cards c.name c.lower c.upper
    by_test false = bounds_cards_by c c.lower c.upper refl refl

-- what a change sets of a column, over what was set before
abbrev set_lower : Option Change → Option (Option Number) → Option (Option Number)
set_lower change before = or_before (lower_in change) before

abbrev set_upper : Option Change → Option (Option Number) → Option (Option Number)
set_upper change before = or_before (upper_in change) before

abbrev set_semi : Option Change → Bool → Bool
set_semi change before = makes_semi change || before

abbrev set_semi_upper : Option Change → Option Bool → Option Bool
set_semi_upper change before = last_kind (semi_upper_in change) before

-- what is set one after another, the last first
abbrev in_turn : {Y : Type 0} → (Option Change → Y → Y) → List Setting → Y → Y
in_turn sets [] before = before
in_turn sets (s ∷ ss) before = in_turn sets ss (sets (Some s.change) before)

abbrev lowers : List Setting → Option (Option Number) → Option (Option Number)
lowers ss before = in_turn set_lower ss before

abbrev uppers : List Setting → Option (Option Number) → Option (Option Number)
uppers ss before = in_turn set_upper ss before

abbrev semis : List Setting → Bool → Bool
semis ss before = in_turn set_semi ss before

abbrev semi_uppers : List Setting → Option Bool → Option Bool
semi_uppers ss before = in_turn set_semi_upper ss before

abbrev pub lower_told : Option ColumnDef → Option (Option Number)
lower_told None = None
lower_told (Some c) = lowers (settings_of c) None

abbrev pub upper_told : Option ColumnDef → Option (Option Number)
upper_told None = None
upper_told (Some c) = uppers (settings_of c) None

abbrev pub semi_told : Option ColumnDef → Bool
semi_told None = false
semi_told (Some c) = semis (settings_of c) false

abbrev pub semi_upper_told : Option ColumnDef → Option Bool
semi_upper_told None = None
semi_upper_told (Some c) = semi_uppers (settings_of c) None

upper_only : (name : Text) (whole : Bool) (upper : Option Number) → unwrap_or (uppers (upper_settings name whole upper) None) None ≡ upper
upper_only name true None = refl
upper_only name false None = refl
upper_only name whole (Some q) = refl

no_lower : (name : Text) (whole : Bool) (upper : Option Number) (before : Option (Option Number)) → lowers (upper_settings name whole upper) before ≡ before
no_lower name true None before = refl
no_lower name false None before = refl
no_lower name whole (Some q) before = refl

ends_upper : (name : Text) (whole : Bool) (lower upper : Option Number) → unwrap_or (uppers (ends_settings name whole lower upper) None) None ≡ upper
ends_upper name whole None upper = upper_only name whole upper
ends_upper name whole (Some q) upper = by_test (eq_ℚ q zero_ℚ && not (is_below_zero upper))
  where
    by_test : (b : Bool) → unwrap_or (uppers (cond b [] (valued Lower name q (sets_lower false (Some q)) ∷ []) ++ upper_settings name whole upper) None) None ≡ upper
    by_test true = upper_only name whole upper
    by_test false = upper_only name whole upper

zero_default : (upper : Option Number) → is_below_zero upper ≡ false → default_lower upper ≡ Some zero_ℚ
zero_default None is = refl
zero_default (Some u) is = ap (λ (b : Bool). cond b None (Some zero_ℚ)) is

ends_lower : (name : Text) (whole : Bool) (lower upper : Option Number) → unwrap_or (lowers (ends_settings name whole lower upper) None) (default_lower upper) ≡ lower
ends_lower name whole None upper = ap (λ (o : Option (Option Number)). unwrap_or o (default_lower upper)) (no_lower name whole upper (Some None))
ends_lower name whole (Some q) upper = by_test (eq_ℚ q zero_ℚ && not (is_below_zero upper)) refl
  where
    by_test : (b : Bool) → (eq_ℚ q zero_ℚ && not (is_below_zero upper)) ≡ b
        → unwrap_or (lowers (cond b [] (valued Lower name q (sets_lower false (Some q)) ∷ []) ++ upper_settings name whole upper) None) (default_lower upper) ≡ Some q
    by_test true is =
        let parts = and_parts (eq_ℚ q zero_ℚ) (not (is_below_zero upper)) is in
        ap (λ (o : Option (Option Number)). unwrap_or o (default_lower upper)) (no_lower name whole upper None)
        ∙ zero_default upper (not-true (is_below_zero upper) parts.1) ∙ ap (λ (x : Number). Some x) (sym ((eq_ℚ-is q zero_ℚ).0 parts.0))
    by_test false is = ap (λ (o : Option (Option Number)). unwrap_or o (default_lower upper)) (no_lower name whole upper (Some (Some q)))

plain_upper : (name : Text) (whole : Bool) (lower upper : Option Number) → unwrap_or (uppers (settings_by name whole lower upper) None) None ≡ upper
plain_upper name whole None None = refl
plain_upper name whole None (Some u) = ends_upper name whole None (Some u)
plain_upper name whole (Some l) None = ends_upper name whole (Some l) None
plain_upper name whole (Some l) (Some u) = by_test (eq_ℚ l u) refl
  where
    by_test : (b : Bool) → eq_ℚ l u ≡ b → unwrap_or (uppers (cond b (valued Fixed name l (sets_both (Some l)) ∷ []) (ends_settings name whole (Some l) (Some u))) None) None ≡ Some u
    by_test true is = ap (λ (x : Number). Some x) ((eq_ℚ-is l u).0 is)
    by_test false is = ends_upper name whole (Some l) (Some u)

plain_lower : (name : Text) (whole : Bool) (lower upper : Option Number) → unwrap_or (lowers (settings_by name whole lower upper) None) (default_lower upper) ≡ lower
plain_lower name whole None None = refl
plain_lower name whole None (Some u) = ends_lower name whole None (Some u)
plain_lower name whole (Some l) None = ends_lower name whole (Some l) None
plain_lower name whole (Some l) (Some u) = by_test (eq_ℚ l u)
  where
    by_test : (b : Bool) → unwrap_or (lowers (cond b (valued Fixed name l (sets_both (Some l)) ∷ []) (ends_settings name whole (Some l) (Some u))) None) (default_lower (Some u)) ≡ Some l
    by_test true = refl
    by_test false = ends_lower name whole (Some l) (Some u)

-- none makes the column semi-continuous
abbrev IsPlain : List Setting → Type 0
IsPlain ss = (semis ss false ≡ false) × (unwrap_or (semi_uppers ss None) false ≡ false)

upper_plain : (name : Text) (whole : Bool) (upper : Option Number) → IsPlain (upper_settings name whole upper)
upper_plain name true None = (refl, refl)
upper_plain name false None = (refl, refl)
upper_plain name whole (Some q) = (refl, refl)

ends_plain : (name : Text) (whole : Bool) (lower upper : Option Number) → IsPlain (ends_settings name whole lower upper)
ends_plain name whole None upper = upper_plain name whole upper
ends_plain name whole (Some q) upper = by_test (eq_ℚ q zero_ℚ && not (is_below_zero upper))
  where
    by_test : (b : Bool) → IsPlain (cond b [] (valued Lower name q (sets_lower false (Some q)) ∷ []) ++ upper_settings name whole upper)
    by_test true = upper_plain name whole upper
    by_test false = upper_plain name whole upper

all_plain : (name : Text) (whole : Bool) (lower upper : Option Number) → IsPlain (settings_by name whole lower upper)
all_plain name whole None None = (refl, refl)
all_plain name whole None (Some u) = ends_plain name whole None (Some u)
all_plain name whole (Some l) None = ends_plain name whole (Some l) None
all_plain name whole (Some l) (Some u) = by_test (eq_ℚ l u)
  where
    by_test : (b : Bool) → IsPlain (cond b (valued Fixed name l (sets_both (Some l)) ∷ []) (ends_settings name whole (Some l) (Some u)))
    by_test true = (refl, refl)
    by_test false = ends_plain name whole (Some l) (Some u)

-- what is set are these bounds, and whether the column is semi-continuous
pub record Gives (semi : Bool) (lower upper : Option Number) (ss : List Setting) : Type 0 where
  pub lower_is : unwrap_or (lowers ss None) (lower_under semi upper) ≡ lower
  pub upper_is : unwrap_or (uppers ss None) None ≡ upper
  pub semi_is : semis ss false ≡ semi
  pub semi_upper_is : unwrap_or (semi_uppers ss None) false ≡ semi

plain_gives : (name : Text) (whole : Bool) (lower upper : Option Number) → Gives false lower upper (settings_by name whole lower upper)
plain_gives name whole lower upper =
    let plain = all_plain name whole lower upper in
    record { lower_is = plain_lower name whole lower upper; upper_is = plain_upper name whole lower upper; semi_is = plain.0; semi_upper_is = plain.1 }

semi_gives : (name : Text) (lower upper : Option Number) → Gives true lower upper (semi_settings name lower upper)
semi_gives name None upper = record { lower_is = refl; upper_is = refl; semi_is = refl; semi_upper_is = refl }
semi_gives name (Some q) upper = by_test (eq_ℚ q zero_ℚ) refl
  where
    by_test : (b : Bool) → eq_ℚ q zero_ℚ ≡ b → Gives true (Some q) upper (cond b [] (valued Lower name q (sets_lower false (Some q)) ∷ []) ++ semi_upper_setting name upper ∷ [])
    by_test true is = record { lower_is = ap (λ (x : Number). Some x) (sym ((eq_ℚ-is q zero_ℚ).0 is)); upper_is = refl; semi_is = refl; semi_upper_is = refl }
    by_test false is = record { lower_is = refl; upper_is = refl; semi_is = refl; semi_upper_is = refl }

pub gives : (c : ColumnDef) → Gives c.semi c.lower c.upper (settings_of c)
gives c = by_test c.semi
  where
    by_test : (b : Bool) → Gives b c.lower c.upper (cond b (semi_settings c.name c.lower c.upper) (settings_by c.name c.whole c.lower c.upper))
    by_test true = semi_gives c.name c.lower c.upper
    by_test false = plain_gives c.name c.whole c.lower c.upper

abbrev pub ReadBound : Numbers → Option Number → Type 0
ReadBound numbers None = Unit {0}
ReadBound numbers (Some q) = WritableBound numbers q

set_after : (o : Option (Option (List ℕ))) → counts o (Some (codes "BND")) ≡ true → counts (or_first o (Some (codes "BND"))) (Some (codes "BND")) ≡ true
set_after None is = refl
set_after (Some first) is = is

or_both : (x y : Bool) → x ≡ false → (x || y) ≡ y
or_both true y is = cc
or_both false y is = refl

module _ (numbers : Numbers) (names : List Text) where
  abbrev d : Dialect
  d = free_format numbers

  -- the columns are known, and the set counts
  record Stands (before : List Card) : Type 0 where
    names_are : column_names before ≡ names
    set_is : counts (bound_set before) (Some (codes "BND")) ≡ true

  -- the card sets this of column n
  record Sets (n : ℕ) (s : Setting) : Type 0 where
    plain : s.change.whole ≡ false
    stands : (before : List Card) → Stands before → Stands (s.card.card ∷ before)
    changes : (before : List Card) (j : ℕ) → Stands before → change_at d s.card.card before j ≡ cond (n == j) (Some s.change) None
    wholes : (before : List Card) (j : ℕ) → is_whole d (s.card.card ∷ before) j ≡ (makes_whole (change_at d s.card.card before j) || is_whole d before j)
    sound : (before : List Card) → Stands before → card_fault d before s.card.card ≡ None

  -- the card of a type with a value, and the text of the value
  abbrev with_text : Valued → Text → Text → Card
  with_text kind name text = ValuedCard (Some (codes "BND")) kind name text

  text_changes : (kind : Valued) (name text : Text) (limit : Limit) (change : Change) (n : ℕ) → place name names ≡ Some n → limit_on d text ≡ Ok limit → valued_change kind limit ≡ Some change
      → (before : List Card) (j : ℕ) → Stands before → change_at d (with_text kind name text) before j ≡ cond (n == j) (Some change) None
  text_changes kind name text limit change n at read is before j st =
      ap₂ (λ (c : Bool) (r : Result Limit ReadNumber). cond (c && is_at (place name (column_names before)) j) (change_in kind r) None) st.set_is read
      ∙ ap₂ (λ (o : Option ℕ) (g : Option Change). cond (is_at o j) g None) (ap (place name) st.names_are ∙ at) is

  text_sound : (kind : Valued) (name text : Text) (limit : Limit) (change : Change) (n : ℕ) → place name names ≡ Some n → limit_on d text ≡ Ok limit → valued_change kind limit ≡ Some change
      → (before : List Card) → Stands before → card_fault d before (with_text kind name text) ≡ None
  text_sound kind name text limit change n at read is before st =
      ap₂ (λ (c : Bool) (r : Result Limit ReadNumber). cond (c && bad_limit kind r) (Some BadNumber) (cond (c && is_past r) (Some faults.TheVariants.NumberPast)
      (cond (c && is_none (place name (column_names before))) (Some UnknownColumn) None))) st.set_is read
      ∙ ap₂ (λ (o : Option ℕ) (g : Option Change). cond (is_none g) (Some BadNumber) (cond (is_none o) (Some UnknownColumn) None)) (ap (place name) st.names_are ∙ at) is

  text_sets : (kind : Valued) (name text : Text) (words : List Text) (limit : Limit) (change : Change) (n : ℕ) → place name names ≡ Some n → limit_on d text ≡ Ok limit
      → valued_change kind limit ≡ Some change → change.whole ≡ false → Sets n (record { card = record { words = words; card = with_text kind name text }; change = change })
  text_sets kind name text words limit change n at read is plain = record {
    plain = plain;
    stands = λ before st. record { names_are = st.names_are; set_is = set_after (bound_set before) st.set_is };
    changes = text_changes kind name text limit change n at read is;
    wholes = λ before j. refl;
    sound = text_sound kind name text limit change n at read is;
  }

  valued_sets : (kind : Valued) (name : Text) (q : Number) (change : Change) (n : ℕ) → place name names ≡ Some n → WritableBound numbers q → valued_change kind (At q) ≡ Some change
      → change.whole ≡ false → Sets n (valued kind name q change)
  valued_sets kind name q change n at w is plain = text_sets kind name (written q) (valued_written kind name q).words (At q) change n at (limit_read numbers q w) is plain

  bare_sets : (kind : Bare) (name : Text) (n : ℕ) → place name names ≡ Some n → (bare_change kind).whole ≡ false → Sets n (bare kind name)
  bare_sets kind name n at plain = record {
    plain = plain;
    stands = λ before st. record { names_are = st.names_are; set_is = set_after (bound_set before) st.set_is };
    changes = λ before j st.
        ap₂ (λ (c : Bool) (o : Option ℕ). cond (c && is_at o j) (Some (bare_change kind)) None) st.set_is (ap (place name) st.names_are ∙ at);
    wholes = λ before j. refl;
    sound = λ before st. ap₂ (λ (c : Bool) (o : Option ℕ). cond (c && is_none o) (Some UnknownColumn) None) st.set_is (ap (place name) st.names_are ∙ at);
  }

  lower_sets : (name : Text) (n : ℕ) (lower upper : Option Number) → place name names ≡ Some n → ReadBound numbers lower → AllByRecursion (Sets n) (lower_settings name lower upper)
  lower_sets name n None upper at w = (bare_sets NoLower name n at refl, tt)
  lower_sets name n (Some q) upper at w = by_test (eq_ℚ q zero_ℚ && not (is_below_zero upper))
    where
      by_test : (b : Bool) → AllByRecursion (Sets n) (cond b [] (valued Lower name q (sets_lower false (Some q)) ∷ []))
      by_test true = tt
      by_test false = (valued_sets Lower name q (sets_lower false (Some q)) n at w refl refl, tt)

  upper_sets : (name : Text) (n : ℕ) (whole : Bool) (upper : Option Number) → place name names ≡ Some n → ReadBound numbers upper → AllByRecursion (Sets n) (upper_settings name whole upper)
  upper_sets name n true None at w = (bare_sets NoUpper name n at refl, tt)
  upper_sets name n false None at w = tt
  upper_sets name n whole (Some q) at w = (valued_sets Upper name q (sets_upper false false (Some q)) n at w refl refl, tt)

  ends_sets : (name : Text) (n : ℕ) (whole : Bool) (lower upper : Option Number) → place name names ≡ Some n → ReadBound numbers lower → ReadBound numbers upper
      → AllByRecursion (Sets n) (ends_settings name whole lower upper)
  ends_sets name n whole lower upper at wl wu = all_append (Sets n) (lower_settings name lower upper) (upper_settings name whole upper) (lower_sets name n lower upper at wl) (upper_sets name n whole upper at wu)

  plain_sets : (name : Text) (n : ℕ) (whole : Bool) (lower upper : Option Number) → place name names ≡ Some n → ReadBound numbers lower → ReadBound numbers upper
      → AllByRecursion (Sets n) (settings_by name whole lower upper)
  plain_sets name n whole None None at wl wu = (bare_sets Free name n at refl, tt)
  plain_sets name n whole None (Some u) at wl wu = ends_sets name n whole None (Some u) at wl wu
  plain_sets name n whole (Some l) None at wl wu = ends_sets name n whole (Some l) None at wl wu
  plain_sets name n whole (Some l) (Some u) at wl wu = by_test (eq_ℚ l u)
    where
      by_test : (b : Bool) → AllByRecursion (Sets n) (cond b (valued Fixed name l (sets_both (Some l)) ∷ []) (ends_settings name whole (Some l) (Some u)))
      by_test true = (valued_sets Fixed name l (sets_both (Some l)) n at wl refl refl, tt)
      by_test false = ends_sets name n whole (Some l) (Some u) at wl wu

  semi_lower_sets : (name : Text) (n : ℕ) (lower : Option Number) → place name names ≡ Some n → ReadBound numbers lower → AllByRecursion (Sets n) (semi_lower_settings name lower)
  semi_lower_sets name n None at w = (bare_sets NoLower name n at refl, tt)
  semi_lower_sets name n (Some q) at w = by_test (eq_ℚ q zero_ℚ)
    where
      by_test : (b : Bool) → AllByRecursion (Sets n) (cond b [] (valued Lower name q (sets_lower false (Some q)) ∷ []))
      by_test true = tt
      by_test false = (valued_sets Lower name q (sets_lower false (Some q)) n at w refl refl, tt)

  semi_upper_sets : (name : Text) (n : ℕ) (upper : Option Number) → place name names ≡ Some n → ReadBound numbers upper → Sets n (semi_upper_setting name upper)
  semi_upper_sets name n None at w =
      text_sets SemiContinuous name (codes "inf") (semi_upper_written name None).words Above (sets_upper false true None) n at (infinite_read numbers) refl refl
  semi_upper_sets name n (Some q) at w = valued_sets SemiContinuous name q (sets_upper false true (Some q)) n at w refl refl

  semi_sets : (name : Text) (n : ℕ) (lower upper : Option Number) → place name names ≡ Some n → ReadBound numbers lower → ReadBound numbers upper
      → AllByRecursion (Sets n) (semi_settings name lower upper)
  semi_sets name n lower upper at wl wu =
      all_append (Sets n) (semi_lower_settings name lower) (semi_upper_setting name upper ∷ []) (semi_lower_sets name n lower at wl) (semi_upper_sets name n upper at wu, tt)

  all_sets : (c : ColumnDef) (n : ℕ) → place c.name names ≡ Some n → ReadBound numbers c.lower → ReadBound numbers c.upper → AllByRecursion (Sets n) (settings_of c)
  all_sets c n at wl wu = by_test c.semi
    where
      by_test : (b : Bool) → AllByRecursion (Sets n) (cond b (semi_settings c.name c.lower c.upper) (settings_by c.name c.whole c.lower c.upper))
      by_test true = semi_sets c.name n c.lower c.upper at wl wu
      by_test false = plain_sets c.name n c.whole c.lower c.upper at wl wu

  -- the cards of one column, one after another
  record Bounds (n : ℕ) (ss : List Setting) (before : List Card) : Type 0 where
    still : Stands (onto before (cards_of ss))
    lower : (j : ℕ) → lower_of d (onto before (cards_of ss)) j ≡ cond (n == j) (lowers ss (lower_of d before j)) (lower_of d before j)
    upper : (j : ℕ) → upper_of d (onto before (cards_of ss)) j ≡ cond (n == j) (uppers ss (upper_of d before j)) (upper_of d before j)
    semi : (j : ℕ) → is_semi d (onto before (cards_of ss)) j ≡ cond (n == j) (semis ss (is_semi d before j)) (is_semi d before j)
    semi_upper : (j : ℕ) → semi_upper_of d (onto before (cards_of ss)) j ≡ cond (n == j) (semi_uppers ss (semi_upper_of d before j)) (semi_upper_of d before j)
    whole : (j : ℕ) → is_whole d (onto before (cards_of ss)) j ≡ is_whole d before j
    faultless : IsFaultless d (onto before (cards_of ss))

  next : {Y : Type 0} (sets : Option Change → Y → Y) (b : Bool) (ss : List Setting) (change : Change) (old : Y) → sets None old ≡ old
      → cond b (in_turn sets ss (sets (cond b (Some change) None) old)) (sets (cond b (Some change) None) old) ≡ cond b (in_turn sets ss (sets (Some change) old)) old
  next sets true ss change old none = refl
  next sets false ss change old none = none

  -- what the first card sets, and then the others
  first_set : {Y : Type 0} (sets : Option Change → Y → Y) (n j : ℕ) (s : Setting) (ss : List Setting) (before : List Card) (old : Y) → Sets n s → Stands before → sets None old ≡ old
      → cond (n == j) (in_turn sets ss (sets (change_at d s.card.card before j) old)) (sets (change_at d s.card.card before j) old) ≡ cond (n == j) (in_turn sets (s ∷ ss) old) old
  first_set sets n j s ss before old is st none =
      ap (λ (g : Option Change). cond (n == j) (in_turn sets ss (sets g old)) (sets g old)) (is.changes before j st) ∙ next sets (n == j) ss s.change old none

  never_whole : (b : Bool) (change : Change) → change.whole ≡ false → makes_whole (cond b (Some change) None) ≡ false
  never_whole true change is = is
  never_whole false change is = refl

  settings_run : (n : ℕ) (ss : List Setting) (before : List Card) → AllByRecursion (Sets n) ss → Stands before → IsFaultless d before → Bounds n ss before
  settings_run n [] before all st sound = record {
    still = st;
    lower = λ j. same_cond (n == j) (lower_of d before j);
    upper = λ j. same_cond (n == j) (upper_of d before j);
    semi = λ j. same_cond (n == j) (is_semi d before j);
    semi_upper = λ j. same_cond (n == j) (semi_upper_of d before j);
    whole = λ j. refl;
    faultless = sound;
  }
  settings_run n (s ∷ ss) before all st sound =
      let after : List Card = s.card.card ∷ before in
      let rest : Bounds n ss after = settings_run n ss after all.1 (all.0.stands before st) (all.0.sound before st, sound) in
      record {
        still = rest.still;
        lower = λ j. rest.lower j ∙ first_set set_lower n j s ss before (lower_of d before j) all.0 st refl;
        upper = λ j. rest.upper j ∙ first_set set_upper n j s ss before (upper_of d before j) all.0 st refl;
        semi = λ j. rest.semi j ∙ first_set set_semi n j s ss before (is_semi d before j) all.0 st refl;
        semi_upper = λ j. rest.semi_upper j ∙ first_set set_semi_upper n j s ss before (semi_upper_of d before j) all.0 st refl;
        whole = λ j. rest.whole j ∙ all.0.wholes before j
            ∙ or_both (makes_whole (change_at d s.card.card before j)) (is_whole d before j) (ap makes_whole (all.0.changes before j st) ∙ never_whole (n == j) s.change all.0.plain);
        faultless = rest.faultless;
      }

  -- the cards say the bounds of these columns, and leave what they say of whole columns
  pub record Bounded (first : List Card) (done : List ColumnDef) (before : List Card) : Type 0 where
    pub names_are : column_names before ≡ names
    pub set_is : counts (bound_set before) (Some (codes "BND")) ≡ true
    pub lower : (j : ℕ) → lower_of d before j ≡ lower_told (slice_get done j)
    pub upper : (j : ℕ) → upper_of d before j ≡ upper_told (slice_get done j)
    pub semi : (j : ℕ) → is_semi d before j ≡ semi_told (slice_get done j)
    pub semi_upper : (j : ℕ) → semi_upper_of d before j ≡ semi_upper_told (slice_get done j)
    pub whole : (j : ℕ) → is_whole d before j ≡ is_whole d first j
    pub sound : IsFaultless d before

  column_step : (first : List Card) (done : List ColumnDef) (before : List Card) (c : ColumnDef) → Bounded first done before → place c.name names ≡ Some (length done)
      → ReadBound numbers c.lower → ReadBound numbers c.upper → Bounded first (done ++ c ∷ []) (onto before (bounds_written c))
  column_step first done before c said at wl wu =
      let st : Stands before = record { names_are = said.names_are; set_is = said.set_is } in
      let after : Bounds (length done) (settings_of c) before =
      settings_run (length done) (settings_of c) before (all_sets c (length done) at wl wu) st said.sound in
      subst (λ (ws : List WrittenCard). Bounded first (done ++ c ∷ []) (onto before ws)) (sym (bounds_cards c))
      (record {
        names_are = after.still.names_are;
        set_is = after.still.set_is;
        lower = λ j. after.lower j ∙ told_by lower_told set_lower refl j (lower_of d before j) (said.lower j);
        upper = λ j. after.upper j ∙ told_by upper_told set_upper refl j (upper_of d before j) (said.upper j);
        semi = λ j. after.semi j ∙ told_by semi_told set_semi refl j (is_semi d before j) (said.semi j);
        semi_upper = λ j. after.semi_upper j ∙ told_by semi_upper_told set_semi_upper refl j (semi_upper_of d before j) (said.semi_upper j);
        whole = λ j. after.whole j ∙ said.whole j;
        sound = after.faultless;
      })
    where
      by_test : {Y : Type 0} (told : Option ColumnDef → Y) (sets : Option Change → Y → Y) → in_turn sets (settings_of c) (told None) ≡ told (Some c)
          → (j : ℕ) (b : Bool) (x : Y) → (length done == j) ≡ b → x ≡ told (slice_get done j) → cond b (in_turn sets (settings_of c) x) x ≡ told (cond b (Some c) (slice_get done j))
      by_test told sets is j true x here old = ap (in_turn sets (settings_of c)) (old ∙ ap told (slice_get_past done j (omega (arith, eqb-true (length done) j here)))) ∙ is
      by_test told sets is j false x here old = old

      told_by : {Y : Type 0} (told : Option ColumnDef → Y) (sets : Option Change → Y → Y) → in_turn sets (settings_of c) (told None) ≡ told (Some c)
          → (j : ℕ) (x : Y) → x ≡ told (slice_get done j) → cond (length done == j) (in_turn sets (settings_of c) x) x ≡ told (slice_get (done ++ c ∷ []) j)
      told_by told sets is j x old = by_test told sets is j (length done == j) x refl old ∙ ap told (sym (get_push done c j))

  pub bounds_run : (first : List Card) (more done : List ColumnDef) (before : List Card) → Bounded first done before → IsNumbered names → names ≡ names_of_columns (done ++ more)
      → AllByRecursion (λ (c : ColumnDef). ReadBound numbers c.lower × ReadBound numbers c.upper) more
      → Bounded first (done ++ more) (onto before (flat_map bounds_written more))
  bounds_run first [] done before said each are all = subst (λ (of : List ColumnDef). Bounded first of before) (sym (append-nil done)) said
  bounds_run first (c ∷ more) done before said each are all =
      let same : done ++ (c ∷ more) ≡ (done ++ c ∷ []) ++ more = sym (append_assoc done (c ∷ []) more) in
      let all_names : names ≡ names_of_columns done ++ c.name ∷ names_of_columns more = are ∙ map-append (λ (e : ColumnDef). e.name) done (c ∷ more) in
      let at : place c.name names ≡ Some (length done) =
      ap (place c.name) all_names ∙ next_place (names_of_columns done) (names_of_columns more) c.name (subst IsNumbered all_names each)
      ∙ ap (λ (k : ℕ). Some k) (length-map done (λ (e : ColumnDef). e.name)) in
      subst (λ (after : List Card). Bounded first (done ++ (c ∷ more)) after) (sym (onto_append before (bounds_written c) (flat_map bounds_written more)))
      (subst (λ (of : List ColumnDef). Bounded first of (onto (onto before (bounds_written c)) (flat_map bounds_written more))) (sym same)
      (bounds_run first more (done ++ c ∷ []) (onto before (bounds_written c)) (column_step first done before c said at all.0.0 all.0.1) each (are ∙ ap names_of_columns same) all.1))
