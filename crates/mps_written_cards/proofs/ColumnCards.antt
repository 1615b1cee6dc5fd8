-- What the written cards of COLUMNS say.
use Rattle.std.proofs.Common.{◌≡◌, ℕ, zero, suc, ◌==◌, inl, List, [], ◌∷◌, ◌++◌, map, length, eqb, not, ◌&&◌, ◌||◌, Bool, true, false, cond, Option, Some, None, unwrap_or, refl, sym, ap, ap₂, ◌∙◌, arith, subst, append_assoc}
use Rattle.std.specs.Prelude.{slice_get, codes}
use Rattle.std.specs.List.{AllByRecursion}
use Rattle.std.proofs.lemmas.Bool.{eq-eqb, ne_eqb, eqb-true, eqb-false}
use Rattle.std.proofs.lemmas.List.{append-nil, map-append, length-map}
use Rattle.std.proofs.lemmas.Option.{slice_get_past}
use Rattle.fractions.specs.Number.{Number, zero_ℚ}
use Rattle.fractions.specs.Compare.{eq_ℚ}
use Rattle.fractions.specs.declared.Numbers.{Numbers}
use Rattle.names.specs.Names.{place}
use Rattle.lp_model.specs.declared.program.ColumnDef.{ColumnDef}
use Rattle.lp_model.specs.declared.terms.Term.{Term}
use Rattle.lp_model.specs.Names.{names_of_columns}
use Rattle.mps_profile.specs.Texts.{Text}
use Rattle.mps_profile.specs.Cards.{Card, MarkerCard}
use Rattle.mps_profile.specs.Rows.{row_names}
use Rattle.mps_profile.specs.Columns.{column_names, joined, number_at, in_run, is_whole}
use Rattle.mps_profile.specs.CardFaults.{fits_run}
use Rattle.mps_profile.specs.declared.dialect.Dialect.{Dialect}
use Rattle.mps_profile.specs.declared.faults.MpsFaultKind.TheVariants.{BadMarker}
use Rattle.mps_laws.specs.Faultless.{IsFaultless}
use Rattle.mps_laws.specs.Names.{IsNumbered}
use Rattle.mps_written_lines.specs.Formats.{free_format}
use Rattle.mps_written_lines.specs.Written.{WrittenCard, marks, entry_written, moved, all_terms, columns_written, onto}
use Rattle.mps_written_cards.proofs.Segments.{onto_append}
use Rattle.mps_written_cards.proofs.Places.{fresh}
use Rattle.mps_written_cards.proofs.Joining.{joined_new}
use Rattle.mps_written_cards.proofs.EntryCards.{Told, latest, Fits, numbers_run, run_run, rows_run, names_run, wholes_run, sound_run}

-- the number of a column at a place, and whether it is whole
abbrev pub told : Option ColumnDef → ℕ → Option Number
told None i = None
told (Some c) i = latest (all_terms c) i None

abbrev pub whole_of : Option ColumnDef → Bool
whole_of None = false
whole_of (Some c) = c.whole

-- the cards say these columns, and a run of whole columns is open or not
pub record Columned (numbers : Numbers) (rows : List Text) (done : List ColumnDef) (before : List Card) (run : Bool) : Type 0 where
  pub rows_are : row_names before ≡ rows
  pub names : column_names before ≡ names_of_columns done
  pub entries : (j i : ℕ) → number_at (free_format numbers) before j i ≡ told (slice_get done j) i
  pub wholes : (j : ℕ) → is_whole (free_format numbers) before j ≡ whole_of (slice_get done j)
  pub run_is : in_run before ≡ run
  pub sound : IsFaultless (free_format numbers) before

marks_keep : {Y : Type 0} (W : List Card → Y) → ((word : Text) (before : List Card) → W (MarkerCard word ∷ before) ≡ W before) → (old new : Bool) (before : List Card)
    → W (onto before (marks old new)) ≡ W before
marks_keep W quiet false true before = quiet (codes "'INTORG'") before
marks_keep W quiet true false before = quiet (codes "'INTEND'") before
marks_keep W quiet false false before = refl
marks_keep W quiet true true before = refl

marks_run : (old new : Bool) (before : List Card) → in_run before ≡ old → in_run (onto before (marks old new)) ≡ new
marks_run false true before is = refl
marks_run true false before is = refl
marks_run false false before is = is
marks_run true true before is = is

marks_sound : (d : Dialect) (old new : Bool) (before : List Card) → in_run before ≡ old → IsFaultless d before → IsFaultless d (onto before (marks old new))
marks_sound d false true before is sound = (ap (λ (r : Bool). cond (not (fits_run r (codes "'INTORG'"))) (Some BadMarker) None) is, sound)
marks_sound d true false before is sound = (ap (λ (r : Bool). cond (not (fits_run r (codes "'INTEND'"))) (Some BadMarker) None) is, sound)
marks_sound d false false before is sound = sound
marks_sound d true true before is sound = sound

pub eqb_more : (a b : ℕ) → eqb (suc a) (suc b) ≡ eqb a b
eqb_more a b = by_test (eqb a b) refl
  where
    by_test : (t : Bool) → eqb a b ≡ t → eqb (suc a) (suc b) ≡ t
    by_test true is = eq-eqb (suc a) (suc b) (ap suc (eqb-true a b is))
    by_test false is = ne_eqb (suc a) (suc b) (λ e. eqb-false a b is (omega (arith, e)))

pub get_push : {X : Type 0} (xs : List X) (x : X) (j : ℕ) → slice_get (xs ++ x ∷ []) j ≡ cond (length xs == j) (Some x) (slice_get xs j)
get_push [] x zero = refl
get_push [] x (suc j) = ap (λ (b : Bool). cond b (Some x) None) (sym (ne_eqb 0 (suc j) (λ e. omega (arith, e))))
get_push (y ∷ ys) x zero = ap (λ (b : Bool). cond b (Some x) (Some y)) (sym (ne_eqb (suc (length ys)) 0 (λ e. omega (arith, e))))
get_push (y ∷ ys) x (suc j) = get_push ys x j ∙ ap (λ (b : Bool). cond b (Some x) (slice_get ys j)) (sym (eqb_more (length ys) j))

whole_last : (w x : Bool) → x ≡ false → ((w && true) || x) ≡ w
whole_last true x is = refl
whole_last false x is = is

whole_other : (w x : Bool) → ((w && false) || x) ≡ x
whole_other true x = refl
whole_other false x = refl

module _ (numbers : Numbers) (rows : List Text) (each : IsNumbered rows) where
  abbrev d : Dialect
  d = free_format numbers

  column_step : (done : List ColumnDef) (before : List Card) (old : Bool) (c : ColumnDef) (t : Term) (us : List Term) → Columned numbers rows done before old
      → place c.name (names_of_columns done) ≡ None → all_terms c ≡ t ∷ us → Told numbers 0 (length rows) (t ∷ us)
      → Columned numbers rows (done ++ c ∷ []) (onto (onto before (marks old c.whole)) (map (entry_written rows c.name) (t ∷ us))) c.whole
  column_step done before old c t us said new is told_all =
      let n : ℕ = length done in
      let mid : List Card = onto before (marks old c.whole) in
      let mid_rows : row_names mid ≡ rows = marks_keep row_names (λ word b. refl) old c.whole before ∙ said.rows_are in
      let mid_names : column_names mid ≡ names_of_columns done = marks_keep column_names (λ word b. refl) old c.whole before ∙ said.names in
      let mid_run : in_run mid ≡ c.whole = marks_run old c.whole before said.run_is in
      let mid_new : place c.name (column_names mid) ≡ None = ap (place c.name) mid_names ∙ new in
      let fits : Fits numbers rows each c.name n mid = record {
        rows_are = mid_rows;
        place_is = ap₂ (λ (o : Option ℕ) (names : List Text). unwrap_or o (length names)) mid_new mid_names ∙ length-map done (λ (e : ColumnDef). e.name);
      } in
      let mid_numbers : (j i : ℕ) → number_at d mid j i ≡ told (slice_get done j) i =
      λ j i. marks_keep (λ (cards : List Card). number_at d cards j i) (λ word b. refl) old c.whole before ∙ said.entries j i in
      let mid_wholes : (j : ℕ) → is_whole d mid j ≡ whole_of (slice_get done j) =
      λ j. marks_keep (λ (cards : List Card). is_whole d cards j) (λ word b. refl) old c.whole before ∙ said.wholes j in
      record {
        rows_are = rows_run numbers rows each c.name n (t ∷ us) mid ∙ mid_rows;
        names = names_run numbers rows each c.name n t us mid ∙ ap (joined c.name) mid_names ∙ joined_new c.name (names_of_columns done) new
            ∙ sym (map-append (λ (e : ColumnDef). e.name) done (c ∷ []));
        entries = λ j i. numbers_run numbers rows each c.name n (t ∷ us) 0 mid j i fits told_all
            ∙ number_by j i (n == j) (number_at d mid j i) refl (mid_numbers j i)
            ∙ ap (λ (o : Option ColumnDef). told o i) (sym (get_push done c j));
        wholes = λ j. wholes_run numbers rows each c.name n t us mid j fits
            ∙ ap (λ (r : Bool). (r && (n == j)) || is_whole d mid j) mid_run
            ∙ whole_by j (n == j) (is_whole d mid j) refl (mid_wholes j)
            ∙ ap whole_of (sym (get_push done c j));
        run_is = run_run numbers rows each c.name n (t ∷ us) mid ∙ mid_run;
        sound = sound_run numbers rows each c.name n (t ∷ us) 0 mid fits told_all (inl mid_new)
            (λ k above. mid_numbers n k ∙ ap (λ (o : Option ColumnDef). told o k) (slice_get_past done n (omega arith)))
            (marks_sound d old c.whole before said.run_is said.sound);
      }
    where
      number_by : (j i : ℕ) (b : Bool) (x : Option Number) → (length done == j) ≡ b → x ≡ told (slice_get done j) i
          → cond b (latest (t ∷ us) i x) x ≡ told (cond b (Some c) (slice_get done j)) i
      number_by j i true x here old_is =
          ap (latest (t ∷ us) i) (old_is ∙ ap (λ (o : Option ColumnDef). told o i) (slice_get_past done j (omega (arith, eqb-true (length done) j here))))
          ∙ ap (λ (ts : List Term). latest ts i None) (sym is)
      number_by j i false x here old_is = old_is

      whole_by : (j : ℕ) (b : Bool) (x : Bool) → (length done == j) ≡ b → x ≡ whole_of (slice_get done j)
          → ((c.whole && b) || x) ≡ whole_of (cond b (Some c) (slice_get done j))
      whole_by j true x here old_is = whole_last c.whole x (old_is ∙ ap whole_of (slice_get_past done j (omega (arith, eqb-true (length done) j here))))
      whole_by j false x here old_is = whole_other c.whole x ∙ old_is

  -- a column has a card, for the cost at least
  pub record HasTerm (ts : List Term) : Type 0 where
    pub first : Term
    pub more : List Term
    pub are : ts ≡ first ∷ more

  some_by : (b : Bool) (x e : Term) (es : List Term) → HasTerm (cond b [] (x ∷ []) ++ map moved (e ∷ es))
  some_by true x e es = record { first = moved e; more = map moved es; are = refl }
  some_by false x e es = record { first = x; more = map moved (e ∷ es); are = refl }

  some_terms : (zero_cost : Bool) (x : Term) (es : List Term) → HasTerm (cond (zero_cost && not (length es == 0)) [] (x ∷ []) ++ map moved es)
  some_terms true x [] = record { first = x; more = []; are = refl }
  some_terms false x [] = record { first = x; more = []; are = refl }
  some_terms zero_cost x (e ∷ es) = some_by (zero_cost && not (length (e ∷ es) == 0)) x e es

  some_term : (c : ColumnDef) → HasTerm (all_terms c)
  some_term c = some_terms (eq_ℚ c.cost zero_ℚ) (record { id = 0; value = c.cost }) c.entries

  column_one : (done : List ColumnDef) (before : List Card) (old : Bool) (c : ColumnDef) → Columned numbers rows done before old
      → place c.name (names_of_columns done) ≡ None → Told numbers 0 (length rows) (all_terms c)
      → Columned numbers rows (done ++ c ∷ []) (onto (onto before (marks old c.whole)) (map (entry_written rows c.name) (all_terms c))) c.whole
  column_one done before old c said new told_all =
      let has = some_term c in
      subst (λ (ts : List Term). Columned numbers rows (done ++ c ∷ []) (onto (onto before (marks old c.whole)) (map (entry_written rows c.name) ts)) c.whole) (sym has.are)
      (column_step done before old c has.first has.more said new has.are (subst (Told numbers 0 (length rows)) has.are told_all))

  no_mark : (done : List ColumnDef) (before : List Card) (old : Bool) → Columned numbers rows done before old → Columned numbers rows done (onto before (marks old false)) false
  no_mark done before old said = record {
    rows_are = marks_keep row_names (λ word b. refl) old false before ∙ said.rows_are;
    names = marks_keep column_names (λ word b. refl) old false before ∙ said.names;
    entries = λ j i. marks_keep (λ (cards : List Card). number_at d cards j i) (λ word b. refl) old false before ∙ said.entries j i;
    wholes = λ j. marks_keep (λ (cards : List Card). is_whole d cards j) (λ word b. refl) old false before ∙ said.wholes j;
    run_is = marks_run old false before said.run_is;
    sound = marks_sound d old false before said.run_is said.sound;
  }

  pub columns_run : (cs done : List ColumnDef) (before : List Card) (old : Bool) → Columned numbers rows done before old → IsNumbered (names_of_columns (done ++ cs))
      → AllByRecursion (λ (c : ColumnDef). Told numbers 0 (length rows) (all_terms c)) cs
      → Columned numbers rows (done ++ cs) (onto before (columns_written rows old cs)) false
  columns_run [] done before old said numbered all =
      subst (λ (cs : List ColumnDef). Columned numbers rows cs (onto before (marks old false)) false) (sym (append-nil done)) (no_mark done before old said)
  columns_run (c ∷ cs) done before old said numbered all =
      let here : List WrittenCard = map (entry_written rows c.name) (all_terms c) in
      let more : List WrittenCard = columns_written rows c.whole cs in
      let new : place c.name (names_of_columns done) ≡ None =
      fresh (names_of_columns done) (names_of_columns cs) c.name (subst IsNumbered (map-append (λ (e : ColumnDef). e.name) done (c ∷ cs)) numbered) in
      let same : done ++ (c ∷ cs) ≡ (done ++ c ∷ []) ++ cs = sym (append_assoc done (c ∷ []) cs) in
      let cards : onto before (marks old c.whole ++ (here ++ more)) ≡ onto (onto (onto before (marks old c.whole)) here) more =
      onto_append before (marks old c.whole) (here ++ more) ∙ onto_append (onto before (marks old c.whole)) here more in
      subst (λ (after : List Card). Columned numbers rows (done ++ (c ∷ cs)) after false) (sym cards)
      (subst (λ (all_of : List ColumnDef). Columned numbers rows all_of (onto (onto (onto before (marks old c.whole)) here) more) false) (sym same)
      (columns_run cs (done ++ c ∷ []) _ c.whole (column_one done before old c said new all.0) (subst (λ (all_of : List ColumnDef). IsNumbered (names_of_columns all_of)) same numbered) all.1))
