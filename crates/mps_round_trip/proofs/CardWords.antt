-- The words of the written cards are read as these cards.
use Rattle.std.proofs.Common.{◌≡◌, ℕ, suc, ◌<◌, ◌==◌, List, [], ◌∷◌, ◌++◌, map, length, not, ◌&&◌, Bool, true, false, cond, Option, Some, None, Ok, Err, refl, ap}
use Rattle.std.specs.Prelude.{codes}
use Rattle.std.specs.List.{AllByRecursion}
use Rattle.std.proofs.lemmas.List.Elements.{All-from_recursion}
use Rattle.fractions.specs.Number.{Number, zero_ℚ, ◌-ℚ◌}
use Rattle.fractions.specs.Compare.{eq_ℚ}
use Rattle.fractions.specs.declared.Numbers.{Numbers}
use Rattle.number_texts.specs.Written.{written}
use Rattle.lp_model.specs.declared.program.RowDef.{RowDef}
use Rattle.lp_model.specs.declared.program.ColumnDef.{ColumnDef}
use Rattle.lp_model.specs.declared.terms.Term.{Term}
use Rattle.mps_profile.specs.Texts.{Text, field}
use Rattle.mps_profile.specs.Cards.{MarkerCard}
use Rattle.mps_profile.specs.FreeCards.{column_with, pairs_at, free_card}
use Rattle.mps_profile.specs.declared.sections.Section.TheVariants.{Rows, Columns, Rhs, Ranges, Bounds}
use Rattle.mps_profile.specs.declared.bounds.Valued.{Valued}
use Rattle.mps_profile.specs.declared.bounds.Valued.TheVariants.{Lower, Upper, Fixed, WholeLower, WholeUpper, SemiContinuous}
use Rattle.mps_profile.specs.declared.bounds.Bare.{Bare}
use Rattle.mps_profile.specs.declared.bounds.Bare.TheVariants.{Free, NoLower, NoUpper, Binary}
use Rattle.mps_profile.specs.declared.faults.MpsFaultKind.TheVariants.{FieldCount}
use Rattle.mps_writer.specs.declared.rows.RowType.{RowType}
use Rattle.mps_writer.specs.declared.rows.RowType.TheVariants.{Equal, AtMost, AtLeast}
use Rattle.mps_writer.specs.Sections.{type_by, type_word, is_below_zero}
use Rattle.mps_written_lines.specs.Words.{IsWord}
use Rattle.mps_written_lines.specs.Words.{IsRowName}
use Rattle.mps_written_lines.specs.Written.{WrittenCard, row_written, objective_written, marks, entry_written, all_terms, columns_written, side_written, side_by, range_written, range_by, valued_written, infinite_written, bare_written, valued_word, bare_word, lower_written, upper_written, ends_written, bounds_by, semi_lower_written, semi_upper_written, semi_written, bounds_written}
use Rattle.mps_written_cards.proofs.Segments.{all_append}
use Rattle.mps_written_lines.specs.AreCards.{IsCardOf}
use Rattle.mps_written_lines.proofs.Reading.{card_kind}
use Rattle.mps_written_cards.proofs.Numerals.{IsRead}
use Rattle.mps_written_cards.proofs.EntryCards.{Told}
use Rattle.mps_written_cards.proofs.SideCards.{IsReadIn}
use Rattle.mps_round_trip.proofs.RangeCards.{WidthIn}

-- ---- the words of each card
type_is_word : (type : RowType) → IsWord (type_word type)
type_is_word Equal = record { some = refl; plain = refl }
type_is_word AtMost = record { some = refl; plain = refl }
type_is_word AtLeast = record { some = refl; plain = refl }

valued_is_word : (kind : Valued) → IsWord (valued_word kind)
valued_is_word Lower = record { some = refl; plain = refl }
valued_is_word Upper = record { some = refl; plain = refl }
valued_is_word Fixed = record { some = refl; plain = refl }
valued_is_word WholeLower = record { some = refl; plain = refl }
valued_is_word WholeUpper = record { some = refl; plain = refl }
valued_is_word SemiContinuous = record { some = refl; plain = refl }

bare_is_word : (kind : Bare) → IsWord (bare_word kind)
bare_is_word Free = record { some = refl; plain = refl }
bare_is_word NoLower = record { some = refl; plain = refl }
bare_is_word NoUpper = record { some = refl; plain = refl }
bare_is_word Binary = record { some = refl; plain = refl }

pub row_read : (row : RowDef) → IsWord row.name → IsCardOf (Some Rows) (row_written row)
row_read row word =
    let all : AllByRecursion IsWord (row_written row).words = (type_is_word (type_by row.lower row.upper), (word, tt)) in
    record { words = all; kind = card_kind (type_word (type_by row.lower row.upper)) (row.name ∷ []) all; says = refl }

pub objective_read : (name : Text) → IsWord name → IsCardOf (Some Rows) (objective_written name)
objective_read name word =
    let all : AllByRecursion IsWord (objective_written name).words = (record { some = refl; plain = refl }, (word, tt)) in
    record { words = all; kind = card_kind (codes "N") (name ∷ []) all; says = refl }

marks_read : (old new : Bool) → AllByRecursion (IsCardOf (Some Columns)) (marks old new)
marks_read false true =
    (record { words = (record { some = refl; plain = refl }, (record { some = refl; plain = refl }, (record { some = refl; plain = refl }, tt))); kind = refl; says = refl }, tt)
marks_read true false =
    (record { words = (record { some = refl; plain = refl }, (record { some = refl; plain = refl }, (record { some = refl; plain = refl }, tt))); kind = refl; says = refl }, tt)
marks_read false false = tt
marks_read true true = tt

entry_read : (numbers : Numbers) (rows : List Text) (name : Text) (t : Term) → IsWord name → IsRowName (field rows t.id) → IsRead numbers t.value → IsCardOf (Some Columns) (entry_written rows name t)
entry_read numbers rows name t word row read =
    let fields : List Text = (entry_written rows name t).words in
    let all : AllByRecursion IsWord fields = (word, (row.word, (read.word, tt))) in
    record {
      words = all;
      kind = card_kind name (field rows t.id ∷ written t.value ∷ []) all;
      says = ap (λ (b : Bool). cond b (cond (length fields == 3) (Ok (MarkerCard (written t.value))) (Err FieldCount)) (column_with name (pairs_at fields 1))) row.other;
    }

pub side_read : (numbers : Numbers) (name : Text) (q : Number) → IsWord name → IsRead numbers q → IsCardOf (Some Rhs) (side_written name q)
side_read numbers name q word read =
    let all : AllByRecursion IsWord (side_written name q).words = (record { some = refl; plain = refl }, (word, (read.word, tt))) in
    record { words = all; kind = card_kind (codes "RHS") (name ∷ written q ∷ []) all; says = refl }

pub range_read : (numbers : Numbers) (name : Text) (q : Number) → IsWord name → IsRead numbers q → IsCardOf (Some Ranges) (range_written name q)
range_read numbers name q word read =
    let all : AllByRecursion IsWord (range_written name q).words = (record { some = refl; plain = refl }, (word, (read.word, tt))) in
    record { words = all; kind = card_kind (codes "RNG") (name ∷ written q ∷ []) all; says = refl }

pub valued_read : (numbers : Numbers) (kind : Valued) (name : Text) (q : Number) → IsWord name → IsRead numbers q → IsCardOf (Some Bounds) (valued_written kind name q)
valued_read numbers kind name q word read =
    let all : AllByRecursion IsWord (valued_written kind name q).words = (valued_is_word kind, (record { some = refl; plain = refl }, (word, (read.word, tt)))) in
    record { words = all; kind = card_kind (valued_word kind) (codes "BND" ∷ name ∷ written q ∷ []) all; says = said kind }
  where
    said : (k : Valued) → free_card (Some Bounds) (valued_written k name q).words ≡ Ok (valued_written k name q).card
    said Lower = refl
    said Upper = refl
    said Fixed = refl
    said WholeLower = refl
    said WholeUpper = refl
    said SemiContinuous = refl

pub infinite_read : (kind : Valued) (name : Text) → IsWord name → IsCardOf (Some Bounds) (infinite_written kind name)
infinite_read kind name word =
    let all : AllByRecursion IsWord (infinite_written kind name).words = (valued_is_word kind, (record { some = refl; plain = refl }, (word, (record { some = refl; plain = refl }, tt)))) in
    record { words = all; kind = card_kind (valued_word kind) (codes "BND" ∷ name ∷ codes "inf" ∷ []) all; says = said kind }
  where
    said : (k : Valued) → free_card (Some Bounds) (infinite_written k name).words ≡ Ok (infinite_written k name).card
    said Lower = refl
    said Upper = refl
    said Fixed = refl
    said WholeLower = refl
    said WholeUpper = refl
    said SemiContinuous = refl

pub bare_read : (kind : Bare) (name : Text) → IsWord name → IsCardOf (Some Bounds) (bare_written kind name)
bare_read kind name word =
    let all : AllByRecursion IsWord (bare_written kind name).words = (bare_is_word kind, (record { some = refl; plain = refl }, (word, tt))) in
    record { words = all; kind = card_kind (bare_word kind) (codes "BND" ∷ name ∷ []) all; says = said kind }
  where
    said : (k : Bare) → free_card (Some Bounds) (bare_written k name).words ≡ Ok (bare_written k name).card
    said Free = refl
    said NoLower = refl
    said NoUpper = refl
    said Binary = refl

-- ---- what holds of each card of a section
pub terms_all : (P : WrittenCard → Type 0) (numbers : Numbers) (rows : List Text) (name : Text) (m : ℕ) (ts : List Term) → Told numbers m (length rows) ts
    → ((t : Term) → t.id < length rows → IsRead numbers t.value → P (entry_written rows name t)) → AllByRecursion P (map (entry_written rows name) ts)
terms_all P numbers rows name m [] told each = tt
terms_all P numbers rows name m (t ∷ ts) told each = (each t told.1 told.2, terms_all P numbers rows name (suc t.id) ts told.3 each)

-- a column whose cards can be read
pub record ReadColumn (numbers : Numbers) (rows : List Text) (c : ColumnDef) : Type 0 where
  pub word : IsWord c.name
  pub told : Told numbers 0 (length rows) (all_terms c)

pub columns_all : (P : WrittenCard → Type 0) (numbers : Numbers) (rows : List Text) (old : Bool) (cs : List ColumnDef) → AllByRecursion (ReadColumn numbers rows) cs
    → ((a b : Bool) → AllByRecursion P (marks a b)) → ((name : Text) (t : Term) → IsWord name → t.id < length rows → IsRead numbers t.value → P (entry_written rows name t))
    → AllByRecursion P (columns_written rows old cs)
columns_all P numbers rows old [] all of_marks each = of_marks old false
columns_all P numbers rows old (c ∷ cs) all of_marks each =
    all_append P (marks old c.whole) (map (entry_written rows c.name) (all_terms c) ++ columns_written rows c.whole cs) (of_marks old c.whole)
    (all_append P (map (entry_written rows c.name) (all_terms c)) (columns_written rows c.whole cs)
    (terms_all P numbers rows c.name 0 (all_terms c) all.0.told (λ t. each c.name t all.0.word)) (columns_all P numbers rows c.whole cs all.1 of_marks each))

pub columns_read : (numbers : Numbers) (rows : List Text) (cs : List ColumnDef) → AllByRecursion IsRowName rows → AllByRecursion (ReadColumn numbers rows) cs
    → AllByRecursion (IsCardOf (Some Columns)) (columns_written rows false cs)
columns_read numbers rows cs names all =
    columns_all (IsCardOf (Some Columns)) numbers rows false cs all marks_read
    (λ name t word within read. entry_read numbers rows name t word (All-from_recursion IsRowName rows names t.id [] within) read)

pub sides_all : (P : WrittenCard → Type 0) (numbers : Numbers) (name : Text) (o : Option Number) → IsReadIn numbers o → ((q : Number) → IsRead numbers q → P (side_written name q)) → AllByRecursion P (side_by name o)
sides_all P numbers name None read each = tt
sides_all P numbers name (Some q) read each = by_test (eq_ℚ q zero_ℚ)
  where
    by_test : (b : Bool) → AllByRecursion P (cond b [] (side_written name q ∷ []))
    by_test true = tt
    by_test false = (each q read, tt)

pub ranges_all : (P : WrittenCard → Type 0) (numbers : Numbers) (name : Text) (lower upper : Option Number) → WidthIn numbers lower upper → ((q : Number) → IsRead numbers q → P (range_written name q))
    → AllByRecursion P (range_by name lower upper)
ranges_all P numbers name None upper has each = tt
ranges_all P numbers name (Some l) None has each = tt
ranges_all P numbers name (Some l) (Some u) has each = by_test (eq_ℚ l u) refl
  where
    by_test : (b : Bool) → eq_ℚ l u ≡ b → AllByRecursion P (cond b [] (range_written name (u -ℚ l) ∷ []))
    by_test true is = tt
    by_test false is = (each (u -ℚ l) (has is).read, tt)

module _ (P : WrittenCard → Type 0) (numbers : Numbers) (name : Text) (bare : (kind : Bare) → P (bare_written kind name)) (valued : (kind : Valued) (q : Number) → IsRead numbers q → P (valued_written kind name q)) where
  lower_all : (lower upper : Option Number) → IsReadIn numbers lower → AllByRecursion P (lower_written name lower upper)
  lower_all None upper read = (bare NoLower, tt)
  lower_all (Some q) upper read = by_test (eq_ℚ q zero_ℚ && not (is_below_zero upper))
    where
      by_test : (b : Bool) → AllByRecursion P (cond b [] (valued_written Lower name q ∷ []))
      by_test true = tt
      by_test false = (valued Lower q read, tt)

  upper_all : (whole : Bool) (upper : Option Number) → IsReadIn numbers upper → AllByRecursion P (upper_written name whole upper)
  upper_all true None read = (bare NoUpper, tt)
  upper_all false None read = tt
  upper_all whole (Some q) read = (valued Upper q read, tt)

  ends_all : (whole : Bool) (lower upper : Option Number) → IsReadIn numbers lower → IsReadIn numbers upper → AllByRecursion P (lower_written name lower upper ++ upper_written name whole upper)
  ends_all whole lower upper low high = all_append P (lower_written name lower upper) (upper_written name whole upper) (lower_all lower upper low) (upper_all whole upper high)

  semi_lower_all : (lower : Option Number) → IsReadIn numbers lower → AllByRecursion P (semi_lower_written name lower)
  semi_lower_all None read = (bare NoLower, tt)
  semi_lower_all (Some q) read = by_test (eq_ℚ q zero_ℚ)
    where
      by_test : (b : Bool) → AllByRecursion P (cond b [] (valued_written Lower name q ∷ []))
      by_test true = tt
      by_test false = (valued Lower q read, tt)

  semi_upper_one : P (infinite_written SemiContinuous name) → (upper : Option Number) → IsReadIn numbers upper → P (semi_upper_written name upper)
  semi_upper_one infinite None read = infinite
  semi_upper_one infinite (Some q) read = valued SemiContinuous q read

  semi_all : P (infinite_written SemiContinuous name) → (lower upper : Option Number) → IsReadIn numbers lower → IsReadIn numbers upper
      → AllByRecursion P (semi_lower_written name lower ++ semi_upper_written name upper ∷ [])
  semi_all infinite lower upper low high = all_append P (semi_lower_written name lower) (semi_upper_written name upper ∷ []) (semi_lower_all lower low) (semi_upper_one infinite upper high, tt)

plain_all : (P : WrittenCard → Type 0) (numbers : Numbers) (c : ColumnDef) → ((kind : Bare) → P (bare_written kind c.name))
    → ((kind : Valued) (q : Number) → IsRead numbers q → P (valued_written kind c.name q)) → (lower upper : Option Number) → IsReadIn numbers lower → IsReadIn numbers upper
    → IsReadIn numbers c.lower → IsReadIn numbers c.upper → AllByRecursion P (bounds_by c lower upper)
plain_all P numbers c bare valued None None low high read_low read_high = (bare Free, tt)
plain_all P numbers c bare valued None (Some u) low high read_low read_high = ends_all P numbers c.name bare valued c.whole c.lower c.upper read_low read_high
plain_all P numbers c bare valued (Some l) None low high read_low read_high = ends_all P numbers c.name bare valued c.whole c.lower c.upper read_low read_high
plain_all P numbers c bare valued (Some l) (Some u) low high read_low read_high = by_test (eq_ℚ l u)
  where
    by_test : (b : Bool) → AllByRecursion P (cond b (valued_written Fixed c.name l ∷ []) (ends_written c))
    by_test true = (valued Fixed l low, tt)
    by_test false = ends_all P numbers c.name bare valued c.whole c.lower c.upper read_low read_high

pub bounds_all : (P : WrittenCard → Type 0) (numbers : Numbers) (c : ColumnDef) → ((kind : Bare) → P (bare_written kind c.name))
    → ((kind : Valued) (q : Number) → IsRead numbers q → P (valued_written kind c.name q)) → P (infinite_written SemiContinuous c.name) → IsReadIn numbers c.lower → IsReadIn numbers c.upper
    → AllByRecursion P (bounds_written c)
bounds_all P numbers c bare valued infinite low high = by_test c.semi
  where
    by_test : (b : Bool) → AllByRecursion P (cond b (semi_written c) (bounds_by c c.lower c.upper))
    by_test true = semi_all P numbers c.name bare valued infinite c.lower c.upper low high
    by_test false = plain_all P numbers c bare valued c.lower c.upper low high low high
