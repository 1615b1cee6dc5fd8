-- K12.
use Rattle.std.proofs.Common.{◌≡◌, ◌≢◌, ◌⊎◌, inl, inr, ℕ, length, Bool, true, false, ◌&&◌, ◌||◌, nat_eq, IsTrue, List, [], ◌∷◌, ◌++◌, get_or, Option, Some, None, unwrap_or, sym, refl, ap, ap₂, ◌∙◌, subst, arith, pos}
use Rattle.std.specs.Prelude.{if◌then◌else◌}
use Rattle.std.specs.List.{All}
use Rattle.std.proofs.lemmas.Bool.{and_parts, cases_eq, eqb-true}
use Rattle.std.proofs.lemmas.List.Elements.{All-append, All-cons, All-filter, All-head, All-map}
use Rattle.fractions.specs.Number.{Number, rational, zero_ℚ, ◌+ℚ◌, ◌-ℚ◌, ◌*ℚ◌}
use Rattle.fractions.specs.Ring.{ring, v, num, ◌:+◌, ◌:-◌, ◌:*◌}
use Rattle.fractions.specs.Division.{◌/ℚ◌}
use Rattle.fractions.specs.Ends.{less, meet_low, meet_high}
use Rattle.fractions.specs.Floor.{IsWhole}
use Rattle.fractions.specs.Total.{put}
use Rattle.fractions.proofs.Floors.{is_whole-is}
use Rattle.fractions.proofs.Totals.{put-same, put-other, at_or_off}
use Rattle.fractions.specs.declared.Numbers.{Numbers}
use Rattle.lp_model.specs.declared.program.Sense.TheVariants.{Min}
use Rattle.lp_model.specs.declared.terms.Term.{Term}
use Rattle.lp_model.specs.Edits.{with_bounds, with_cost, without_row}
use Rattle.lp_model.specs.EndTests.{is_fixed, is_in_order}
use Rattle.lp_model.specs.Ends.{IsSided}
use Rattle.lp_model.specs.LinearProgram.{LinearProgram}
use Rattle.lp_model.specs.Reductions.{Reduces, ReducesPairs}
use Rattle.lp_model.specs.Sparse.{Ascends, dense, has}
use Rattle.lp_model.specs.Vectors.{Vector}
use Rattle.lp_theory.specs.Elsewhere.{substituted}
use Rattle.lp_substitutions.specs.DoubletonEquation.{IsDoubletonEquation, doubleton_equation_offset, doubleton_equation_substituted, image_lower, image_upper, substituted_by, undo_doubleton_equation}
use Rattle.lp_substitutions.proofs.DoubletonEquation.{doubleton_equation_reduces}
use Rattle.undo_records.specs.Lift.{undone}
use Rattle.undo_records.specs.Ids.{ids_of, is_on}
use Rattle.undo_records.specs.declared.undo.Undo.{Undo}
use Rattle.undo_records.specs.declared.undo.Undo.TheVariants.{DoubletonEquation}
use Rattle.pair_laws.specs.LiftPair.{undone_pair}
use Rattle.pair_laws.specs.Records as records
use Rattle.pair_laws.proofs.ColumnPairs.{equation_pair}
use Rattle.problem_model.specs.declared.edit.Edit.{Edit}
use Rattle.problem_model.specs.declared.edit.Edit.TheVariants.{SetCost, SetBounds, AddOffset, DeleteRow, DeleteColumn}
use Rattle.problem_model.specs.declared.line.Line.{Line}
use Rattle.problem_model.specs.declared.part.Contents.TheVariants as holding
use Rattle.problem_model.specs.Allowed.{AreAllowed}
use Rattle.problem_model.specs.Applied.{applied}
use Rattle.problem_model.specs.EditedPrograms.{programs_edited}
use Rattle.problem_model.specs.Edits.{row_deleted}
use Rattle.problem_model.specs.Flags.{flags_of}
use Rattle.problem_model.specs.LeftOut.{column_left_out}
use Rattle.problem_model.specs.Matrices.{line_at}
use Rattle.problem_model.specs.NewNumbers.{EditIsSided}
use Rattle.problem_model.specs.Offsets.{added_by}
use Rattle.problem_model.specs.Problems.{row_at, column_at, row_entries, column_entries, sides_at, bounds_at, cost_at, IsSparse, no_bounds}
use Rattle.problem_model.specs.Raised.{committed}
use Rattle.problem_model.specs.Showing.{coefficient_of, end_if, shown}
use Rattle.problem_model.specs.Sparse.{Sparse}
use Rattle.problem_model.specs.Writing.{KeptSides, IsWritable}
use Rattle.problem_laws.proofs.AtIds.{column_inside, losing-live, row_inside}
use Rattle.problem_laws.proofs.Entries.{column_entries-ascend, column_entries-live, row_entries-ascend}
use Rattle.problem_laws.proofs.Terms.{ascends-filter, dense-absent, dense-cons_other, dense-cons_same, dense-without, has-without, terms_tell}
use Rattle.edit_laws.proofs.Lists.{allowed_more}
use Rattle.edit_laws.proofs.Reducing.{by_edits, pairs_by_edits}
use Rattle.ray_step_laws.proofs.Records as ray
use Rattle.ray_step_laws.proofs.RaysBack.{rays_by_edits}
use Rattle.rule_words.specs.Ray.{StepsBack}
use Rattle.rule_words.specs.StepBack.{weighed_in}
use Rattle.edit_laws.proofs.Sweeps.{sweep, sweep_bounds, programs_more, added_more, sweep_matrix, sweep_allowed, sweep_added, sweep_flags, sweep_no_entries, sweep_sided, sweep_only, sweep_lower, sweep_upper}
use Rattle.row_spans.specs.Exact.{exact_quotient, if_room}
use Rattle.rule_words.specs.Owed.{Owes}
use Rattle.rule_words.proofs.Coefficients.{coefficient_in_column, coefficient_in_row, end_live}
use Rattle.rule_words.proofs.EndTestsSay.{AreFixed, fixed_ends, not_true}
use Rattle.rule_words.proofs.Named.{lives, one_on, two_sided}
use Rattle.aggregation_laws.specs.DoubletonEquation.{are_at, column_joined, edits, enabled, entry_at, equal_of, factor, is_doubleton_equation, is_made_whole, joined_cost, joined_lower, joined_upper, new_entry, others, record_of, shift, stays_whole}
use Rattle.aggregation_laws.proofs.Entries.{set_added, set_bounds_stay, set_all, set_allowed, set_column, set_columns, set_first, set_flags, set_rows, set_sided, with_column}
use Rattle.problem_model.specs.Parts.{bounds_held}
use Rattle.rule_words.proofs.Solid.{gap_solid, low_shown, high_shown}
use Rattle.problem_model.specs.declared.line.Bounds.{Bounds}

-- ---- two entries
pub record IsPair (ts : List Term) (j k : ℕ) : Type 0 where
  pub apart : j ≢ k
  pub first : dense ts j ≢ zero_ℚ
  pub second : dense ts k ≢ zero_ℚ
  pub alone : (c : ℕ) → c ≢ j → c ≢ k → dense ts c ≡ zero_ℚ

turned : (ts : List Term) (j k : ℕ) → IsPair ts j k → IsPair ts k j
turned ts j k h = record { apart = λ e. h.apart (sym e); first = h.second; second = h.first; alone = λ c x y. h.alone c y x }

two_are : (t u : Term) (m n : ℕ) (j k : ℕ) → Ascends m n (t ∷ u ∷ []) → t.id ≡ j → u.id ≡ k → IsPair (t ∷ u ∷ []) j k
two_are t u m n j k a e f = record {
  apart = omega (arith, a.3.0, e, f);
  first = λ z. a.2 (sym (dense-cons_same t (u ∷ []) j e) ∙ z);
  second = λ z. a.3.2 (sym (dense-cons_other t (u ∷ []) k (omega (arith, a.3.0, f)) ∙ dense-cons_same u [] k f) ∙ z);
  alone = λ c x y. dense-cons_other t (u ∷ []) c (λ g. x (sym g ∙ e)) ∙ dense-cons_other u [] c (λ g. y (sym g ∙ f));
}

either : (a b : Bool) → (a || b) ≡ true → (a ≡ true) ⊎ (b ≡ true)
either true b e = inl refl
either false b e = inr e

pub pair_is : (ts : List Term) (m n j k : ℕ) → Ascends m n ts → are_at j k ts ≡ true → IsPair ts j k
pair_is [] m n j k a e = absurd (not_true e)
pair_is (t ∷ []) m n j k a e = absurd (not_true e)
pair_is (t ∷ u ∷ x ∷ ts) m n j k a e = absurd (not_true e)
pair_is (t ∷ u ∷ []) m n j k a e = by (either (nat_eq t.id j && nat_eq u.id k) (nat_eq t.id k && nat_eq u.id j) e)
  where
    by : ((nat_eq t.id j && nat_eq u.id k) ≡ true) ⊎ ((nat_eq t.id k && nat_eq u.id j) ≡ true) → IsPair (t ∷ u ∷ []) j k
    by (inl h) = let b = and_parts (nat_eq t.id j) (nat_eq u.id k) h in two_are t u m n j k a (eqb-true t.id j b.0) (eqb-true u.id k b.1)
    by (inr h) = let b = and_parts (nat_eq t.id k) (nat_eq u.id j) h in turned (t ∷ u ∷ []) k j (two_are t u m n k j a (eqb-true t.id k b.0) (eqb-true u.id j b.1))

-- ---- whole quotients
made_whole : (room : Bool) (q : Number) → is_made_whole (if_room room q) ≡ true → IsWhole q
made_whole true q e = (is_whole-is q).0 e
made_whole false q e = absurd (not_true e)

whole_are : (first second : Bool) (a b r : Number) → stays_whole first second a b r ≡ true → IsTrue first → IsTrue second × IsWhole (b /ℚ a) × IsWhole (r /ℚ a)
whole_are false second a b r e w = absurd (not_true w)
whole_are true second a b r e w =
    let x = and_parts second (is_made_whole (exact_quotient b a) && is_made_whole (exact_quotient r a)) e in
    let y = and_parts (is_made_whole (exact_quotient b a)) (is_made_whole (exact_quotient r a)) x.1 in
    (x.0, made_whole _ (b /ℚ a) y.0, made_whole _ (r /ℚ a) y.1)

-- ---- what the condition says: of a live row and two live columns
pub record Said (row first second semi other : Bool) (ts : List Term) (l u : Option Number) (w x : Bool) (j k : ℕ) : Type 0 where
  pub row_on : row ≡ true
  pub first_on : first ≡ true
  pub second_on : second ≡ true
  pub first_solid : semi ≡ false
  pub second_solid : other ≡ false
  pub at : are_at j k ts ≡ true
  pub ends : AreFixed l u false (unwrap_or l zero_ℚ)
  pub whole : IsTrue w → IsTrue x × IsWhole (dense ts k /ℚ dense ts j) × IsWhole (unwrap_or l zero_ℚ /ℚ dense ts j)

says : (row first second semi other : Bool) (ts : List Term) (l u m o n q : Option Number) (w y : Bool) (j k : ℕ)
    → is_doubleton_equation j k (if row then holding.Entries ts else holding.Gone) (if row then holding.Sides l u else holding.Gone)
    (if first then bounds_held semi m o w else holding.Gone) (if second then bounds_held other n q y else holding.Gone) ≡ true
    → Said row first second semi other ts l u w y j k
says true true true true other ts l u m o n q w y j k e = absurd (not_true e)
says true true true false true ts l u m o n q w y j k e = absurd (not_true e)
says true true true false false ts l u m o n q w y j k e =
    let e1 = and_parts (are_at j k ts) _ e in
    let e2 = and_parts (is_fixed l u false) _ e1.1 in
    let e3 = and_parts (is_in_order m o) _ e2.1 in
    let e4 = and_parts (is_in_order n q) _ e3.1 in
    record { row_on = refl; first_on = refl; second_on = refl; first_solid = refl; second_solid = refl; at = e1.0; ends = fixed_ends l u false e2.0; whole = whole_are w y (dense ts j) (dense ts k) (unwrap_or l zero_ℚ) e4.1 }
says true true false true other ts l u m o n q w y j k e = absurd (not_true e)
says true true false false other ts l u m o n q w y j k e = absurd (not_true e)
says true false second semi other ts l u m o n q w y j k e = absurd (not_true e)
says false first second semi other ts l u m o n q w y j k e = absurd (not_true e)

abbrev pub SaidOf : Sparse → ℕ → ℕ → ℕ → Type 0
SaidOf p i j k = Said (row_at p i).live (column_at p j).live (column_at p k).live (bounds_at p j).semi (bounds_at p k).semi (row_entries p i) (sides_at p i).lower (sides_at p i).upper (bounds_at p j).whole (bounds_at p k).whole j k

pub said : (p : Sparse) (i j k : ℕ) → enabled p i j k ≡ true → SaidOf p i j k
said p i j k = says (row_at p i).live (column_at p j).live (column_at p k).live (bounds_at p j).semi (bounds_at p k).semi (row_entries p i) (sides_at p i).lower (sides_at p i).upper
    (bounds_at p j).lower (bounds_at p j).upper (bounds_at p k).lower (bounds_at p k).upper (bounds_at p j).whole (bounds_at p k).whole j k

-- ---- ends less products
less_zero : (o : Option Number) (w : Number) → less o (zero_ℚ *ℚ w) ≡ o
less_zero None w = refl
less_zero (Some b) w = ap Some (ring rational (b ∷ w ∷ []) (v 0 :- num (pos 0) :* v 1) (v 0) refl)

sided_less : (numbers : Numbers) (l u : Option Number) (c : Number) → KeptSides numbers l u → IsSided (less l c) (less u c)
sided_less numbers None None c k = k
sided_less numbers None (Some u) c k = tt
sided_less numbers (Some l) u c k = tt

module _ (p : Sparse) (s : IsSparse p) (i j k : ℕ) (f : SaidOf p i j k) where
  abbrev M : LinearProgram
  M = shown p

  abbrev a : Number
  a = entry_at p i j

  abbrev b : Number
  b = entry_at p i k

  abbrev r : Number
  r = equal_of p i

  abbrev ts : List Term
  ts = others p i j

  abbrev low : Term → Option Number
  low t = less (sides_at p t.id).lower (t.value *ℚ shift p i j)

  abbrev high : Term → Option Number
  high t = less (sides_at p t.id).upper (t.value *ℚ shift p i j)

  abbrev entries : List Edit
  entries = set_all k (new_entry p k (factor p i j k)) ts

  abbrev sides : List Edit
  sides = sweep low high ts

  abbrev joined : List Edit
  joined = column_joined i j k (joined_cost p i j k) (joined_lower p i j k) (joined_upper p i j k) (cost_at p j *ℚ shift p i j)

  -- ---- the equation
  pair : IsPair (row_entries p i) j k
  pair = pair_is (row_entries p i) 0 (length p.matrix.columns) j k (row_entries-ascend p i s) f.at

  in_row : (c : ℕ) → coefficient_of p i c ≡ dense (row_entries p i) c
  in_row c = coefficient_in_row p i c ∙ ap (λ (on : Bool). if on then dense (row_entries p i) c else zero_ℚ) f.row_on

  in_column : (m c : ℕ) → (column_at p c).live ≡ true → dense (column_entries p c) m ≡ coefficient_of p m c
  in_column m c live = sym (coefficient_in_column p m c s.matrix ∙ ap (λ (on : Bool). if on then dense (column_entries p c) m else zero_ℚ) live)

  a_is : a ≡ M.coefficient i j
  a_is = sym (in_row j)

  b_is : b ≡ M.coefficient i k
  b_is = sym (in_row k)

  shows_doubleton_equation : IsDoubletonEquation M i j k r
  shows_doubleton_equation = record {
    row = row_inside p i f.row_on;
    first = column_inside p j f.first_on;
    second = column_inside p k f.second_on;
    solid = gap_solid (column_at p j).live (bounds_at p j) f.first_solid;
    apart = pair.apart;
    first_entry = λ z. pair.first (a_is ∙ z);
    second_entry = λ z. pair.second (b_is ∙ z);
    only = λ c l x y. in_row c ∙ pair.alone c x y;
    lower = end_live (row_at p i).live (sides_at p i).lower f.row_on ∙ f.ends.lower;
    upper = end_live (row_at p i).live (sides_at p i).upper f.row_on ∙ f.ends.upper;
    whole = λ w. let h = f.whole (and_parts (column_at p j).live (bounds_at p j).whole w).1 in
        (ap₂ ◌&&◌ f.second_on h.0, subst IsWhole (ap₂ (λ x y. x /ℚ y) b_is a_is) h.1, subst IsWhole (ap (λ y. r /ℚ y) a_is) h.2);
  }

  -- ---- the other terms of column j
  terms_ascend : Ascends 0 (length p.matrix.rows) ts
  terms_ascend = ascends-filter _ (column_entries p j) 0 (length p.matrix.rows) (column_entries-ascend p j s)

  terms_live : All (λ t. (row_at p t.id).live ≡ true) ts
  terms_live = All-filter _ (λ t. (row_at p t.id).live ≡ true) (column_entries p j) (column_entries-live p j)

  tell : All (λ t. dense ts t.id ≡ t.value) ts
  tell = terms_tell ts 0 (length p.matrix.rows) terms_ascend

  terms_are : (m : ℕ) → m ≢ i → dense ts m ≡ M.coefficient m j
  terms_are m n = dense-without i (column_entries p j) m ∙ put-other (dense (column_entries p j)) i zero_ℚ m n ∙ in_column m j f.first_on

  -- ---- what is shown: first the entries of column k
  abbrev column : ℕ → Number
  column m = M.coefficient m k -ℚ dense ts m *ℚ factor p i j k

  column_of_terms : All (λ t. new_entry p k (factor p i j k) t ≡ column t.id) ts
  column_of_terms x d l = let t = get_or ts x d in ap₂ (λ c e. c -ℚ e *ℚ factor p i j k) (in_column t.id k f.second_on) (sym (tell x d l))

  column_named : (m : ℕ) → (has m ts ≡ true) ⊎ (M.coefficient m k ≡ column m)
  column_named m = by (has m ts) refl
    where
      by : (on : Bool) → has m ts ≡ on → (has m ts ≡ true) ⊎ (M.coefficient m k ≡ column m)
      by true h = inl h
      by false h = inr (ring rational (M.coefficient m k ∷ factor p i j k ∷ []) (v 0) (v 0 :- num (pos 0) :* v 1) refl
          ∙ ap (λ e. M.coefficient m k -ℚ e *ℚ factor p i j k) (sym (dense-absent m ts h)))

  abbrev M1 : LinearProgram
  M1 = with_column M k column

  shows_entries : programs_edited M entries ≡ M1
  shows_entries = set_column k (new_entry p k (factor p i j k)) column ts M column_of_terms column_named

  -- ---- then the sides
  abbrev left : (ℕ → Option Number) → ℕ → Option Number
  left side m = less (end_if (row_at p m).live (side m)) (dense ts m *ℚ shift p i j)

  of_terms : (side : ℕ → Option Number) → All (λ t. less (side t.id) (t.value *ℚ shift p i j) ≡ left side t.id) ts
  of_terms side x d l = let t = get_or ts x d in ap₂ (λ (on : Bool) (c : Number). less (end_if on (side t.id)) (c *ℚ shift p i j)) (sym (terms_live x d l)) (sym (tell x d l))

  named : (side : ℕ → Option Number) (m : ℕ) → (has m ts ≡ true) ⊎ (end_if (row_at p m).live (side m) ≡ left side m)
  named side m = by (has m ts) refl
    where
      by : (on : Bool) → has m ts ≡ on → (has m ts ≡ true) ⊎ (end_if (row_at p m).live (side m) ≡ left side m)
      by true h = inl h
      by false h = inr (sym (less_zero (end_if (row_at p m).live (side m)) (shift p i j)) ∙ ap (λ (c : Number). less (end_if (row_at p m).live (side m)) (c *ℚ shift p i j)) (sym (dense-absent m ts h)))

  abbrev M2 : LinearProgram
  M2 = record M1 { lower_side = left (λ m. (sides_at p m).lower); upper_side = left (λ m. (sides_at p m).upper) }

  shows_sides : programs_edited M1 sides ≡ M2
  shows_sides = sweep_only low high ts M1 ∙ (λ t. record M1 {
    lower_side = λ m. sweep_lower low high (left (λ m. (sides_at p m).lower)) ts M1 (of_terms (λ m. (sides_at p m).lower)) m (named (λ m. (sides_at p m).lower) m) t;
    upper_side = λ m. sweep_upper low high (left (λ m. (sides_at p m).upper)) ts M1 (of_terms (λ m. (sides_at p m).upper)) m (named (λ m. (sides_at p m).upper) m) t;
  })

  -- ---- then the rest, field by field
  apart_puts : {A : Type 0} (g : ℕ → A) (x y : A) (z : ℕ) → put (put g k y) j x z ≡ put (put g j x) k y z
  apart_puts g x y = at_or_off (λ z. put (put g k y) j x z ≡ put (put g j x) k y z) j
      (put-same (put g k y) j x ∙ sym (put-other (put g j x) k y j pair.apart ∙ put-same g j x))
      (λ z n. put-other (put g k y) j x z n ∙ at_or_off (λ z. z ≢ j → put g k y z ≡ put (put g j x) k y z) k
      (λ m. put-same g k y ∙ sym (put-same (put g j x) k y))
      (λ z o m. put-other g k y z o ∙ sym (put-other (put g j x) k y z o ∙ put-other g j x z m)) z n)

  abbrev R : LinearProgram
  R = substituted_by M i j k a b r

  no_entry : (c : ℕ) → put (λ x. zero_ℚ) j zero_ℚ c ≡ zero_ℚ
  no_entry = at_or_off (λ c. put (λ x. zero_ℚ) j zero_ℚ c ≡ zero_ℚ) j (put-same (λ x. zero_ℚ) j zero_ℚ) (λ c n. put-other (λ x. zero_ℚ) j zero_ℚ c n)

  coefficients : (m c : ℕ) → put (put M1.coefficient i (λ x. zero_ℚ) m) j zero_ℚ c ≡ R.coefficient m c
  coefficients m c = by (cases_eq m i)
    where
      by : (m ≡ i) ⊎ (m ≢ i) → put (put M1.coefficient i (λ x. zero_ℚ) m) j zero_ℚ c ≡ R.coefficient m c
      by (inl e) =
          ap (λ (x : ℕ). put (put M1.coefficient i (λ x. zero_ℚ) x) j zero_ℚ c) e
          ∙ ap (λ (g : ℕ → Number). put g j zero_ℚ c) (put-same M1.coefficient i (λ x. zero_ℚ)) ∙ no_entry c
          ∙ sym (ap (λ (x : ℕ). R.coefficient x c) e ∙ ap (λ (g : ℕ → Number). g c) (put-same (λ m. substituted (M.coefficient m) j k (factor p i j k)) i (λ c. zero_ℚ)))
      by (inr n) =
          ap (λ (g : ℕ → Number). put g j zero_ℚ c) (put-other M1.coefficient i (λ x. zero_ℚ) m n)
          ∙ apart_puts (M.coefficient m) zero_ℚ (column m) c
          ∙ ap (λ (d : Number). put (put (M.coefficient m) j zero_ℚ) k (M.coefficient m k -ℚ d *ℚ factor p i j k) c) (terms_are m n)
          ∙ sym (ap (λ (g : ℕ → Number). g c) (put-other (λ m. substituted (M.coefficient m) j k (factor p i j k)) i (λ c. zero_ℚ) m n))

  side : (end : ℕ → Option Number) (m : ℕ) → put (λ m. less (end m) (dense ts m *ℚ shift p i j)) i None m ≡ put (λ m. less (end m) (M.coefficient m j *ℚ shift p i j)) i None m
  side end = at_or_off (λ m. put (λ m. less (end m) (dense ts m *ℚ shift p i j)) i None m ≡ put (λ m. less (end m) (M.coefficient m j *ℚ shift p i j)) i None m) i
      (put-same (λ m. less (end m) (dense ts m *ℚ shift p i j)) i None ∙ sym (put-same (λ m. less (end m) (M.coefficient m j *ℚ shift p i j)) i None))
      (λ m n. put-other (λ m. less (end m) (dense ts m *ℚ shift p i j)) i None m n ∙ ap (λ (d : Number). less (end m) (d *ℚ shift p i j)) (terms_are m n)
      ∙ sym (put-other (λ m. less (end m) (M.coefficient m j *ℚ shift p i j)) i None m n))

  cost_is : joined_cost p i j k ≡ M.costs k -ℚ M.costs j *ℚ factor p i j k
  cost_is = sym (ap₂ (λ (x y : Bool). (if x then cost_at p k else zero_ℚ) -ℚ (if y then cost_at p j else zero_ℚ) *ℚ factor p i j k) f.second_on f.first_on)

  lower_is : joined_lower p i j k ≡ meet_low (M.lower_bound k) (image_lower a b r (M.lower_bound j) (M.upper_bound j))
  lower_is t = meet_low (sym (low_shown p k f.second_on f.second_solid) t) (image_lower a b r (sym (low_shown p j f.first_on f.first_solid) t) (sym (high_shown p j f.first_on f.first_solid) t))

  upper_is : joined_upper p i j k ≡ meet_high (M.upper_bound k) (image_upper a b r (M.lower_bound j) (M.upper_bound j))
  upper_is t = meet_high (sym (high_shown p k f.second_on f.second_solid) t) (image_upper a b r (sym (low_shown p j f.first_on f.first_solid) t) (sym (high_shown p j f.first_on f.first_solid) t))

  shows_joined : column_left_out (without_row (with_bounds (with_cost M2 k (joined_cost p i j k)) k (joined_lower p i j k) (joined_upper p i j k)) i) j ≡ R
  shows_joined t = record R {
    coefficient = λ m c. coefficients m c t;
    lower_side = λ m. side M.lower_side m t;
    upper_side = λ m. side M.upper_side m t;
    lower_bound = λ c. (apart_puts M.lower_bound None (joined_lower p i j k) c ∙ ap (λ (e : Option Number). put (put M.lower_bound j None) k e c) lower_is) t;
    upper_bound = λ c. (apart_puts M.upper_bound None (joined_upper p i j k) c ∙ ap (λ (e : Option Number). put (put M.upper_bound j None) k e c) upper_is) t;
    costs = λ c. (apart_puts M.costs zero_ℚ (joined_cost p i j k) c ∙ ap (λ (d : Number). put (put M.costs j zero_ℚ) k d c) cost_is) t;
  }

  shows : programs_edited M (edits p i j k) ≡ doubleton_equation_substituted M i j k r
  shows =
      programs_more entries (sides ++ joined) M
      ∙ ap (λ (N : LinearProgram). programs_edited N (sides ++ joined)) shows_entries
      ∙ programs_more sides joined M1
      ∙ ap (λ (N : LinearProgram). programs_edited N joined) shows_sides
      ∙ shows_joined
      ∙ ap₂ (λ (x y : Number). substituted_by M i j k x y r) a_is b_is

  -- ---- the edits may be made
  abbrev p1 : Sparse
  p1 = applied p entries

  abbrev p2 : Sparse
  p2 = applied p1 sides

  row_stays : (m : ℕ) → (row_at p1 m).live ≡ (row_at p m).live
  row_stays = set_rows k (new_entry p k (factor p i j k)) ts p terms_live

  column_stays : (c : ℕ) → (column_at p2 c).live ≡ (column_at p c).live
  column_stays c = ap (λ g. (line_at g.columns c).live) (sweep_matrix low high ts p1) ∙ set_columns k (new_entry p k (factor p i j k)) ts p f.second_on c

  row_there : (row_at p2 i).live ≡ true
  row_there = ap (λ g. (line_at g.rows i).live) (sweep_matrix low high ts p1) ∙ row_stays i ∙ f.row_on

  solid_stays : (bounds_at p2 k).semi ≡ false
  solid_stays = ap (λ (bs : List Bounds). (get_or bs k no_bounds).semi) (sweep_bounds low high ts p1 ∙ set_bounds_stay k (new_entry p k (factor p i j k)) ts p) ∙ f.second_solid

  allowed : AreAllowed p (edits p i j k)
  allowed = allowed_more p entries (sides ++ joined) (set_allowed k (new_entry p k (factor p i j k)) ts p terms_live f.second_on)
      (allowed_more p1 sides joined (sweep_allowed low high ts p1 (λ x d l. row_stays (get_or ts x d).id ∙ terms_live x d l))
      (column_stays k ∙ f.second_on, ((column_stays k ∙ f.second_on, solid_stays), (tt, (row_there, (losing-live (row_deleted p2 i).matrix.rows p2.matrix.columns i j ∙ column_stays j ∙ f.first_on, tt))))))

  -- ---- what they add
  adds : doubleton_equation_offset M i j r ≡ added_by (edits p i j k)
  adds = sym (added_more entries (sides ++ joined) ∙ ap₂ (λ x y. x +ℚ y) (set_added k (new_entry p k (factor p i j k)) ts) (added_more sides joined ∙ ap (λ x. x +ℚ added_by joined) (sweep_added low high ts))
      ∙ ring rational ((cost_at p j *ℚ shift p i j) ∷ []) (num (pos 0) :+ (num (pos 0) :+ (num (pos 0) :+ (num (pos 0) :+ (v 0 :+ (num (pos 0) :+ (num (pos 0) :+ num (pos 0)))))))) (v 0) refl
      ∙ sym (ap₂ (λ (on : Bool) (x : Number). (if on then cost_at p j else zero_ℚ) *ℚ (r /ℚ x)) f.first_on (sym a_is)))

  reduces : Reduces Min M (shown (committed p (edits p i j k))) (undone (record_of p i j k)) (added_by (edits p i j k))
  reduces = by_edits p (edits p i j k) (doubleton_equation_substituted M i j k r) (undone (record_of p i j k)) (doubleton_equation_offset M i j r) s allowed shows adds
      (subst (λ (g : Vector → Vector). Reduces Min M (doubleton_equation_substituted M i j k r) g (doubleton_equation_offset M i j r)) (sym (ap₂ (λ (x y : Number). undo_doubleton_equation j k x y r) a_is b_is))
      (doubleton_equation_reduces M i j k r shows_doubleton_equation Min))

  -- ---- the record holds what is shown
  terms_have : dense ts ≡ put (λ m. M.coefficient m j) i zero_ℚ
  terms_have z m = (dense-without i (column_entries p j) m ∙ (λ t. put (λ x. in_column x j f.first_on t) i zero_ℚ m)) z

  record_is : records.doubleton_equation M i j k r ts ≡ record_of p i j k
  record_is z = DoubletonEquation (record {
    row = i;
    column = j;
    kept = k;
    value = sym a_is z;
    kept_value = sym b_is z;
    equal = r;
    lower = low_shown p k f.second_on f.second_solid z;
    upper = high_shown p k f.second_on f.second_solid z;
    cost = ap (λ (on : Bool). if on then cost_at p j else zero_ℚ) f.first_on z;
    entries = ts;
  })

  pairs : ReducesPairs Min M (shown (committed p (edits p i j k))) (undone_pair (record_of p i j k))
  pairs = pairs_by_edits p (edits p i j k) (doubleton_equation_substituted M i j k r) (undone_pair (record_of p i j k)) s allowed shows
      (subst (λ (u : Undo). ReducesPairs Min M (doubleton_equation_substituted M i j k r) (undone_pair u)) record_is (equation_pair M i j k r ts shows_doubleton_equation terms_ascend terms_have))

  rays : StepsBack M (shown (committed p (edits p i j k))) (weighed_in (record_of p i j k) (shown (committed p (edits p i j k))))
  rays = rays_by_edits p (edits p i j k) (doubleton_equation_substituted M i j k r) (record_of p i j k) s allowed shows
      (subst (λ (u : Undo). StepsBack M (doubleton_equation_substituted M i j k r) (weighed_in u (doubleton_equation_substituted M i j k r))) record_is (ray.doubleton_equation M i j k r ts shows_doubleton_equation terms_ascend terms_have))

  -- ---- the rest of what is owed
  joined_sided : (c : Number) (l u : Option Number) (o : Number) → All EditIsSided (column_joined i j k c l u o)
  joined_sided c l u o = All-cons EditIsSided (SetCost k c) (SetBounds k l u ∷ AddOffset o ∷ DeleteRow i ∷ DeleteColumn j ∷ []) tt
      (All-append EditIsSided (SetBounds k l u ∷ AddOffset o ∷ []) (DeleteRow i ∷ DeleteColumn j ∷ []) (two_sided (SetBounds k l u) (AddOffset o) tt tt) (two_sided (DeleteRow i) (DeleteColumn j) tt tt))

  sided : (numbers : Numbers) → IsWritable numbers p → All EditIsSided (edits p i j k)
  sided numbers h = All-append EditIsSided entries (sides ++ joined) (set_sided k (new_entry p k (factor p i j k)) ts)
      (All-append EditIsSided sides joined
      (sweep_sided low high ts (λ x d l. let t = get_or ts x d in sided_less numbers (sides_at p t.id).lower (sides_at p t.id).upper (t.value *ℚ shift p i j) (h.rows t.id (terms_live x d l))))
      (joined_sided (joined_cost p i j k) (joined_lower p i j k) (joined_upper p i j k) (cost_at p j *ℚ shift p i j)))

  on : (lines : List Line) (m : ℕ) → (line_at lines m).live ≡ true → is_on (lives lines) m ≡ true
  on lines m h = All-head (λ m. is_on (lives lines) m ≡ true) m [] (one_on lines m h)

  rows_on : All (λ m. is_on (lives p.matrix.rows) m ≡ true) (i ∷ ids_of ts)
  rows_on = All-cons (λ m. is_on (lives p.matrix.rows) m ≡ true) i (ids_of ts) (on p.matrix.rows i f.row_on)
      (All-map (λ m. is_on (lives p.matrix.rows) m ≡ true) (λ (t : Term). t.id) ts (λ x d l. on p.matrix.rows (get_or ts x d).id (terms_live x d l)))

  columns_on : All (λ c. is_on (lives p.matrix.columns) c ≡ true) (j ∷ k ∷ [])
  columns_on = All-cons (λ c. is_on (lives p.matrix.columns) c ≡ true) j (k ∷ []) (on p.matrix.columns j f.first_on) (one_on p.matrix.columns k f.second_on)

  pub owes_said : Owes p (edits p i j k) (record_of p i j k)
  owes_said = record {
    allowed = allowed;
    ordered = set_first k (new_entry p k (factor p i j k)) ts (sides ++ joined) (sweep_no_entries low high ts joined tt);
    reduces = reduces;
    pairs = λ continuous. pairs;
    rays = λ continuous. rays;
    sided = sided;
    sound = ((row_inside p i f.row_on, column_inside p j f.first_on, pair.first), (column_inside p j f.first_on, column_inside p k f.second_on, pair.apart), pair.second, (terms_ascend, has-without i (column_entries p j)));
    names = (rows_on, columns_on);
    deletes = set_flags k (new_entry p k (factor p i j k)) ts (flags_of p) (sides ++ joined) ∙ sweep_flags low high ts (flags_of p) joined;
  }

pub owes : (p : Sparse) (i j k : ℕ) → IsSparse p → enabled p i j k ≡ true → Owes p (edits p i j k) (record_of p i j k)
owes p i j k s e = owes_said p s i j k (said p i j k e)
