-- What the written cards of RHS say.
use Rattle.std.proofs.Common.{◌≡◌, ℕ, ◌==◌, List, [], ◌∷◌, ◌++◌, length, ◌&&◌, ◌||◌, Bool, true, false, cond, Option, Some, None, Result, is_some, refl, sym, ap, ap₂, ◌∙◌, arith, subst, append_assoc}
use Rattle.std.specs.Prelude.{slice_get, codes, flat_map, is_none}
use Rattle.std.specs.List.{AllByRecursion}
use Rattle.std.proofs.lemmas.Bool.{eqb-true}
use Rattle.std.proofs.lemmas.List.{append-nil, map-append, length-map}
use Rattle.std.proofs.lemmas.Option.{slice_get_past}
use Rattle.fractions.specs.Number.{Number, zero_ℚ}
use Rattle.fractions.specs.Compare.{eq_ℚ}
use Rattle.fractions.specs.declared.Numbers.{Numbers}
use Rattle.number_texts.specs.Written.{written}
use Rattle.number_texts.specs.declared.reading.ReadNumber.{ReadNumber}
use Rattle.names.specs.Names.{place}
use Rattle.lp_model.specs.declared.program.RowDef.{RowDef}
use Rattle.lp_model.specs.Names.{names_of_rows}
use Rattle.mps_profile.specs.Texts.{Text}
use Rattle.mps_profile.specs.Numerals.{number_on}
use Rattle.mps_profile.specs.Cards.{Card}
use Rattle.mps_profile.specs.Sets.{counts, side_set, or_first}
use Rattle.mps_profile.specs.Rows.{row_names, is_at, value_in, side_of}
use Rattle.mps_profile.specs.CardFaults.{card_fault, is_bad, is_past, at_place}
use Rattle.mps_profile.specs.declared.dialect.Dialect.{Dialect}
use Rattle.mps_profile.specs.declared.faults.MpsFaultKind.TheVariants.{BadNumber, UnknownRow, DuplicateEntry}
use Rattle.mps_profile.specs.declared.faults.MpsFaultKind as faults
use Rattle.mps_writer.specs.Sections.{right_side_by}
use Rattle.mps_laws.specs.Faultless.{IsFaultless}
use Rattle.mps_laws.specs.Names.{IsNumbered}
use Rattle.mps_written_lines.specs.Formats.{free_format}
use Rattle.mps_written_lines.specs.Written.{WrittenCard, side_written, side_by, sides_written, onto}
use Rattle.mps_written_cards.proofs.Segments.{onto_append}
use Rattle.mps_written_cards.proofs.Places.{next_place}
use Rattle.mps_written_cards.proofs.Numerals.{IsRead}
use Rattle.mps_written_cards.proofs.Arithmetic.{nonzero}
use Rattle.mps_written_cards.proofs.ColumnCards.{get_push}

-- the right side of a row, where it isn't 0
abbrev pub side_told : Option RowDef → Option Number
side_told None = None
side_told (Some row) = nonzero (right_side_by row.lower row.upper)

-- a number, where there is one, is read again
abbrev pub IsReadIn : Numbers → Option Number → Type 0
IsReadIn numbers None = Unit {0}
IsReadIn numbers (Some q) = IsRead numbers q

-- the cards say these right sides
pub record Sided (numbers : Numbers) (rows : List Text) (done : List RowDef) (before : List Card) : Type 0 where
  pub rows_are : row_names before ≡ rows
  pub set_is : counts (side_set before) (Some (codes "RHS")) ≡ true
  pub sides : (i : ℕ) → side_of (free_format numbers) before i ≡ side_told (slice_get done i)
  pub sound : IsFaultless (free_format numbers) before

same_set_counts : (o : Option (Option (List ℕ))) → counts o (Some (codes "RHS")) ≡ true → counts (or_first o (Some (codes "RHS"))) (Some (codes "RHS")) ≡ true
same_set_counts None is = refl
same_set_counts (Some first) is = is

-- a card where there is a number
abbrev cards_of_number : Text → Option Number → List WrittenCard
cards_of_number name None = []
cards_of_number name (Some q) = side_written name q ∷ []

side_cards_are : (name : Text) (o : Option Number) → side_by name o ≡ cards_of_number name (nonzero o)
side_cards_are name None = refl
side_cards_are name (Some q) = by_test (eq_ℚ q zero_ℚ)
  where
    by_test : (b : Bool) → cond b [] (side_written name q ∷ []) ≡ cards_of_number name (cond b None (Some q))
    by_test true = refl
    by_test false = refl

read_nonzero : (numbers : Numbers) (o : Option Number) → IsReadIn numbers o → IsReadIn numbers (nonzero o)
read_nonzero numbers None is = tt
read_nonzero numbers (Some q) is = by_test (eq_ℚ q zero_ℚ)
  where
    by_test : (b : Bool) → IsReadIn numbers (cond b None (Some q))
    by_test true = tt
    by_test false = is

module _ (numbers : Numbers) (rows : List Text) where
  abbrev d : Dialect
  d = free_format numbers

  side_one : (before : List Card) (name : Text) (q : Number) (n i : ℕ) → counts (side_set before) (Some (codes "RHS")) ≡ true → place name (row_names before) ≡ Some n → IsRead numbers q
      → side_of d ((side_written name q).card ∷ before) i ≡ cond (n == i) (Some q) (side_of d before i)
  side_one before name q n i set at read =
      ap (λ (c : Bool). cond c (cond (is_at (place name (row_names before)) i) (value_in (number_on d (written q))) (side_of d before i)) (side_of d before i)) set
      ∙ ap₂ (λ (o : Option ℕ) (r : Result Number ReadNumber). cond (is_at o i) (value_in r) (side_of d before i)) at read.again

  side_sound : (before : List Card) (name : Text) (q : Number) (n : ℕ) → counts (side_set before) (Some (codes "RHS")) ≡ true → place name (row_names before) ≡ Some n → IsRead numbers q
      → side_of d before n ≡ None → card_fault d before (side_written name q).card ≡ None
  side_sound before name q n set at read free =
      ap₂ (λ (c : Bool) (r : Result Number ReadNumber).
      cond (c && is_bad r) (Some BadNumber) (cond (c && is_past r) (Some faults.TheVariants.NumberPast) (cond (c && is_none (place name (row_names before))) (Some UnknownRow)
      (cond (c && (at_place (λ k. is_some (side_of d before k)) (place name (row_names before)) || false)) (Some DuplicateEntry) None)))) set read.again
      ∙ ap (λ (o : Option ℕ). cond (is_none o) (Some UnknownRow) (cond (at_place (λ k. is_some (side_of d before k)) o || false) (Some DuplicateEntry) None)) at
      ∙ ap (λ (o : Option Number). cond (is_some o || false) (Some DuplicateEntry) None) free

  -- one row more, with its number
  side_by_number : (done : List RowDef) (before : List Card) (row : RowDef) (v : Option Number) → nonzero (right_side_by row.lower row.upper) ≡ v → Sided numbers rows done before
      → place row.name rows ≡ Some (length done) → IsReadIn numbers v → Sided numbers rows (done ++ row ∷ []) (onto before (cards_of_number row.name v))
  side_by_number done before row None is said at read = record {
    rows_are = said.rows_are;
    set_is = said.set_is;
    sides = λ i. same i (length done == i) refl ∙ ap side_told (sym (get_push done row i));
    sound = said.sound;
  }
    where
      same : (i : ℕ) (b : Bool) → (length done == i) ≡ b → side_of d before i ≡ side_told (cond b (Some row) (slice_get done i))
      same i true here = said.sides i ∙ ap side_told (slice_get_past done i (omega (arith, eqb-true (length done) i here))) ∙ sym is
      same i false here = said.sides i
  side_by_number done before row (Some q) is said at read =
      let known : place row.name (row_names before) ≡ Some (length done) = ap (place row.name) said.rows_are ∙ at in
      record {
        rows_are = said.rows_are;
        set_is = same_set_counts (side_set before) said.set_is;
        sides = λ i. side_one before row.name q (length done) i said.set_is known read ∙ one_more i (length done == i) ∙ ap side_told (sym (get_push done row i));
        sound = (
          side_sound before row.name q (length done) said.set_is known read
              (said.sides (length done) ∙ ap side_told (slice_get_past done (length done) (omega arith))),
          said.sound,
        );
      }
    where
      one_more : (i : ℕ) (b : Bool) → cond b (Some q) (side_of d before i) ≡ side_told (cond b (Some row) (slice_get done i))
      one_more i true = sym is
      one_more i false = said.sides i

  side_step : (done : List RowDef) (before : List Card) (row : RowDef) → Sided numbers rows done before → place row.name rows ≡ Some (length done)
      → IsReadIn numbers (right_side_by row.lower row.upper) → Sided numbers rows (done ++ row ∷ []) (onto before (sides_written row))
  side_step done before row said at read =
      subst (λ (ws : List WrittenCard). Sided numbers rows (done ++ row ∷ []) (onto before ws)) (sym (side_cards_are row.name (right_side_by row.lower row.upper)))
      (side_by_number done before row (nonzero (right_side_by row.lower row.upper)) refl said at (read_nonzero numbers (right_side_by row.lower row.upper) read))

  pub sides_run : (more done : List RowDef) (before : List Card) → Sided numbers rows done before → IsNumbered rows → rows ≡ names_of_rows (done ++ more)
      → AllByRecursion (λ (row : RowDef). IsReadIn numbers (right_side_by row.lower row.upper)) more → Sided numbers rows (done ++ more) (onto before (flat_map sides_written more))
  sides_run [] done before said each are all = subst (λ (of : List RowDef). Sided numbers rows of before) (sym (append-nil done)) said
  sides_run (row ∷ more) done before said each are all =
      let same : done ++ (row ∷ more) ≡ (done ++ row ∷ []) ++ more = sym (append_assoc done (row ∷ []) more) in
      let names : rows ≡ names_of_rows done ++ row.name ∷ names_of_rows more = are ∙ map-append (λ (r : RowDef). r.name) done (row ∷ more) in
      let at : place row.name rows ≡ Some (length done) =
      ap (place row.name) names ∙ next_place (names_of_rows done) (names_of_rows more) row.name (subst IsNumbered names each) ∙ ap (λ (k : ℕ). Some k) (length-map done (λ (r : RowDef). r.name)) in
      subst (λ (after : List Card). Sided numbers rows (done ++ (row ∷ more)) after) (sym (onto_append before (sides_written row) (flat_map sides_written more)))
      (subst (λ (of : List RowDef). Sided numbers rows of (onto (onto before (sides_written row)) (flat_map sides_written more))) (sym same)
      (sides_run more (done ++ row ∷ []) (onto before (sides_written row)) (side_step done before row said at all.0) each (are ∙ ap names_of_rows same) all.1))
