-- What the cards of one column say.
use Rattle.std.proofs.Common.{◌≡◌, ℕ, suc, ◌<◌, ◌≤◌, ◌==◌, ◌⊎◌, inl, inr, List, [], ◌∷◌, map, length, not, ◌&&◌, ◌||◌, Bool, true, false, cond, Option, Some, None, Result, is_some, refl, sym, ap, ap₂, ◌∙◌, arith}
use Rattle.std.specs.Prelude.{is_none}
use Rattle.std.proofs.lemmas.Bool.{eq-eqb, ne_eqb}
use Rattle.fractions.specs.Number.{Number}
use Rattle.fractions.specs.declared.Numbers.{Numbers}
use Rattle.number_texts.specs.Written.{written}
use Rattle.number_texts.specs.declared.reading.ReadNumber.{ReadNumber}
use Rattle.names.specs.Names.{place}
use Rattle.lp_model.specs.declared.terms.Term.{Term}
use Rattle.mps_profile.specs.Texts.{Text, field}
use Rattle.mps_profile.specs.Cards.{Pair, Card}
use Rattle.mps_profile.specs.Rows.{row_names, is_at, value_in}
use Rattle.mps_profile.specs.Columns.{column_names, joined, column_place, number_at, open_column, in_run, is_whole}
use Rattle.mps_profile.specs.CardFaults.{card_fault, is_bad, is_past, has_number, at_place, is_split}
use Rattle.mps_profile.specs.declared.dialect.Dialect.{Dialect}
use Rattle.mps_profile.specs.declared.faults.MpsFaultKind.{MpsFaultKind}
use Rattle.mps_profile.specs.declared.faults.MpsFaultKind.TheVariants.{BadNumber, UnknownRow, DuplicateEntry, SplitColumn}
use Rattle.mps_profile.specs.declared.faults.MpsFaultKind as faults
use Rattle.mps_laws.specs.Faultless.{IsFaultless}
use Rattle.mps_laws.specs.Names.{IsNumbered}
use Rattle.mps_written_lines.specs.Formats.{free_format}
use Rattle.mps_written_lines.specs.Written.{entry_written, onto}
use Rattle.mps_written_cards.proofs.Joining.{place_joined, column_place_joined, joined_again}
use Rattle.mps_written_cards.proofs.Numerals.{IsRead}

-- terms at ascending places from m and below n, each of which is read again
abbrev pub Told : Numbers → ℕ → ℕ → List Term → Type 0
Told numbers m n [] = Unit {0}
Told numbers m n (t ∷ ts) = (m ≤ t.id) × (t.id < n) × IsRead numbers t.value × Told numbers (suc t.id) n ts

-- the number of the last of the terms with a place, or what stands before them
abbrev pub latest : List Term → ℕ → Option Number → Option Number
latest [] i before = before
latest (t ∷ ts) i before = latest ts i (cond (t.id == i) (Some t.value) before)

abbrev pub entry_card : List Text → Text → Term → Card
entry_card rows name t = (entry_written rows name t).card

pub same_cond : {A : Type 0} (b : Bool) (x : A) → x ≡ cond b x x
same_cond true x = refl
same_cond false x = refl

or_middle : (x y : Bool) → (x || false || y) ≡ (x || y)
or_middle true y = refl
or_middle false y = refl

or_twice : (x y : Bool) → (x || (x || y)) ≡ (x || y)
or_twice true y = refl
or_twice false y = refl

module _ (numbers : Numbers) (rows : List Text) (each : IsNumbered rows) (name : Text) (n : ℕ) where
  abbrev d : Dialect
  d = free_format numbers

  -- the cards of the terms behind others
  abbrev pub with_terms : List Card → List Term → List Card
  with_terms before ts = onto before (map (entry_written rows name) ts)

  -- the rows are known, and n is the column's place
  pub record Fits (before : List Card) : Type 0 where
    pub rows_are : row_names before ≡ rows
    pub place_is : column_place name (column_names before) ≡ n

  place_of_row : (before : List Card) (t : Term) → Fits before → t.id < length rows → place (field rows t.id) (row_names before) ≡ Some t.id
  place_of_row before t fits within = ap (place (field rows t.id)) fits.rows_are ∙ each t.id within

  fits_more : (before : List Card) (t : Term) → Fits before → Fits (entry_card rows name t ∷ before)
  fits_more before t fits = record { rows_are = fits.rows_are; place_is = column_place_joined name (column_names before) ∙ fits.place_is }

  number_one : (before : List Card) (t : Term) (j i : ℕ) → Fits before → t.id < length rows → IsRead numbers t.value
      → number_at d (entry_card rows name t ∷ before) j i ≡ cond (n == j) (cond (t.id == i) (Some t.value) (number_at d before j i)) (number_at d before j i)
  number_one before t j i fits within read =
      ap₂ (λ (o : Option ℕ) (r : Result Number ReadNumber). cond (column_place name (column_names before) == j) (cond (is_at o i) (value_in r) (number_at d before j i)) (number_at d before j i))
      (place_of_row before t fits within) read.again
      ∙ ap (λ (k : ℕ). cond (k == j) (cond (t.id == i) (Some t.value) (number_at d before j i)) (number_at d before j i)) fits.place_is

  pub numbers_run : (ts : List Term) (m : ℕ) (before : List Card) (j i : ℕ) → Fits before → Told numbers m (length rows) ts
      → number_at d (with_terms before ts) j i ≡ cond (n == j) (latest ts i (number_at d before j i)) (number_at d before j i)
  numbers_run [] m before j i fits told = same_cond (n == j) (number_at d before j i)
  numbers_run (t ∷ ts) m before j i fits told =
      numbers_run ts (suc t.id) (entry_card rows name t ∷ before) j i (fits_more before t fits) told.3
      ∙ by_test (n == j) (number_at d (entry_card rows name t ∷ before) j i) (number_one before t j i fits told.1 told.2)
    where
      by_test : (b : Bool) (new : Option Number) → new ≡ cond b (cond (t.id == i) (Some t.value) (number_at d before j i)) (number_at d before j i)
          → cond b (latest ts i new) new ≡ cond b (latest ts i (cond (t.id == i) (Some t.value) (number_at d before j i))) (number_at d before j i)
      by_test true new is = ap (latest ts i) is
      by_test false new is = is

  pub run_run : (ts : List Term) (before : List Card) → in_run (with_terms before ts) ≡ in_run before
  run_run [] before = refl
  run_run (t ∷ ts) before = run_run ts (entry_card rows name t ∷ before)

  pub rows_run : (ts : List Term) (before : List Card) → row_names (with_terms before ts) ≡ row_names before
  rows_run [] before = refl
  rows_run (t ∷ ts) before = rows_run ts (entry_card rows name t ∷ before)

  pub names_run : (t : Term) (ts : List Term) (before : List Card) → column_names (with_terms before (t ∷ ts)) ≡ joined name (column_names before)
  names_run t [] before = refl
  names_run t (u ∷ us) before = names_run u us (entry_card rows name t ∷ before) ∙ joined_again name (column_names before)

  whole_one : (before : List Card) (t : Term) (j : ℕ) → Fits before → is_whole d (entry_card rows name t ∷ before) j ≡ ((in_run before && (n == j)) || is_whole d before j)
  whole_one before t j fits =
      or_middle (in_run before && (column_place name (column_names before) == j)) (is_whole d before j)
      ∙ ap (λ (k : ℕ). (in_run before && (k == j)) || is_whole d before j) fits.place_is

  pub wholes_run : (t : Term) (ts : List Term) (before : List Card) (j : ℕ) → Fits before → is_whole d (with_terms before (t ∷ ts)) j ≡ ((in_run before && (n == j)) || is_whole d before j)
  wholes_run t [] before j fits = whole_one before t j fits
  wholes_run t (u ∷ us) before j fits =
      wholes_run u us (entry_card rows name t ∷ before) j (fits_more before t fits)
      ∙ ap (λ (b : Bool). (in_run before && (n == j)) || b) (whole_one before t j fits)
      ∙ or_twice (in_run before && (n == j)) (is_whole d before j)

  -- the column is new, or it is the one that is going on
  abbrev pub Goes : List Card → Type 0
  Goes before = (place name (column_names before) ≡ None) ⊎ ((place name (column_names before) ≡ Some n) × (open_column before ≡ Some n))

  unnamed : (before : List Card) (t : Term) → Fits before → t.id < length rows → Goes before → number_at d before n t.id ≡ None
      → has_number d before name (record { row = field rows t.id; number = written t.value }) ≡ false
  unnamed before t fits within (inl new) free =
      ap (at_place (λ j. at_place (λ i. is_some (number_at d before j i)) (place (field rows t.id) (row_names before)))) new
  unnamed before t fits within (inr known) free =
      ap (at_place (λ j. at_place (λ i. is_some (number_at d before j i)) (place (field rows t.id) (row_names before)))) known.0
      ∙ ap (at_place (λ i. is_some (number_at d before n i))) (place_of_row before t fits within) ∙ ap is_some free

  together : (before : List Card) → Goes before → is_split (place name (column_names before)) (open_column before) ≡ false
  together before (inl new) = ap (λ (o : Option ℕ). is_split o (open_column before)) new
  together before (inr known) = ap₂ is_split known.0 known.1 ∙ ap not (eq-eqb n n refl)

  entry_sound : (before : List Card) (t : Term) → Fits before → t.id < length rows → IsRead numbers t.value → Goes before → number_at d before n t.id ≡ None
      → card_fault d before (entry_card rows name t) ≡ None
  entry_sound before t fits within read goes free =
      let pair : Pair = record { row = field rows t.id; number = written t.value } in
      ap₂ (λ (r : Result Number ReadNumber) (o : Option ℕ).
      cond (is_bad r) (Some BadNumber) (cond (is_past r) (Some faults.TheVariants.NumberPast) (cond (is_none o) (Some UnknownRow)
      (cond (has_number d before name pair || false) (Some DuplicateEntry) (cond (is_split (place name (column_names before)) (open_column before)) (Some SplitColumn) None)))))
      read.again (place_of_row before t fits within)
      ∙ ap₂ (λ (h s : Bool). cond (h || false) (Some DuplicateEntry) (cond s (Some SplitColumn) None)) (unnamed before t fits within goes free) (together before goes)

  goes_on : (before : List Card) (t : Term) → Fits before → Goes (entry_card rows name t ∷ before)
  goes_on before t fits = inr (place_joined name (column_names before) ∙ ap (λ (k : ℕ). Some k) fits.place_is, ap (λ (k : ℕ). Some k) fits.place_is)

  still_free : (before : List Card) (t : Term) (m k : ℕ) → Fits before → t.id < length rows → IsRead numbers t.value → t.id < k → number_at d before n k ≡ None
      → number_at d (entry_card rows name t ∷ before) n k ≡ None
  still_free before t m k fits within read above free =
      number_one before t n k fits within read
      ∙ ap (λ (b : Bool). cond (n == n) (cond b (Some t.value) (number_at d before n k)) (number_at d before n k)) (ne_eqb t.id k (λ e. omega (arith, e, above)))
      ∙ sym (same_cond (n == n) (number_at d before n k)) ∙ free

  pub sound_run : (ts : List Term) (m : ℕ) (before : List Card) → Fits before → Told numbers m (length rows) ts → Goes before
      → ((k : ℕ) → m ≤ k → number_at d before n k ≡ None) → IsFaultless d before → IsFaultless d (with_terms before ts)
  sound_run [] m before fits told goes free sound = sound
  sound_run (t ∷ ts) m before fits told goes free sound =
      sound_run ts (suc t.id) (entry_card rows name t ∷ before) (fits_more before t fits) told.3 (goes_on before t fits)
      (λ k above. still_free before t m k fits told.1 told.2 (omega (arith, above)) (free k (omega (arith, above, told.0))))
      (entry_sound before t fits told.1 told.2 goes (free t.id told.0), sound)
