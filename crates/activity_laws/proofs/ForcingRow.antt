-- K7.
use Rattle.std.proofs.Common.{◌≡◌, ◌≢◌, ◌⊎◌, inl, inr, ℕ, zero, suc, length, get_or, Bool, true, false, not, ◌&&◌, ◌||◌, arith, List, [], ◌∷◌, ◌++◌, map, Option, Some, None, refl, sym, ap, ap₂, ◌∙◌, subst}
use Rattle.std.specs.Prelude.{if◌then◌else◌, slice_set}
use Rattle.std.specs.List.{All}
use Rattle.std.proofs.lemmas.Bool.{and_parts, cases_eq}
use Rattle.std.proofs.lemmas.List.Elements.{All-nil, All-cons, All-head, All-tail}
use Rattle.fractions.specs.Number.{Number, zero_ℚ, ◌+ℚ◌}
use Rattle.fractions.specs.Order.{≤ℚ_antisym, <ℚ-not, <ℚ-≤ℚ}
use Rattle.fractions.specs.Compare.{lt_ℚ}
use Rattle.fractions.specs.Total.{put}
use Rattle.fractions.specs.Comparisons.{le_ℚ-is}
use Rattle.fractions.proofs.EndLaws.{same_end-is}
use Rattle.fractions.proofs.Totals.{put-same, put-other}
use Rattle.lp_model.specs.Edits.{with_bounds, without_row}
use Rattle.lp_model.specs.EndTests.{is_in_order}
use Rattle.lp_model.specs.Flags.{Flags}
use Rattle.lp_model.specs.LinearProgram.{LinearProgram}
use Rattle.lp_model.specs.Sparse.{Ascends, dense, has}
use Rattle.lp_model.specs.declared.program.Sense.TheVariants.{Min}
use Rattle.lp_model.specs.declared.terms.Term.{Term}
use Rattle.lp_theory.specs.Activities.{least, greatest}
use Rattle.lp_theory.specs.Crossed.{AreCrossed}
use Rattle.lp_theory.proofs.ActivityLaws.{lt_true, lt_false}
use Rattle.lp_rows.specs.ForcingRow.{IsForcedAtLowerSide, IsForcedAtUpperSide, IsUncrossed, forced_at_lower_side, forced_at_upper_side, lower_at_greatest, lower_at_least, upper_at_greatest, upper_at_least}
use Rattle.lp_rows.proofs.ForcingRow.{forced_at_lower_side_keeps, forced_at_upper_side_keeps}
use Rattle.undo_records.specs.declared.side.Side.TheVariants.{Lower, Upper}
use Rattle.pair_laws.specs.LiftPair.{undone_pair}
use Rattle.pair_laws.proofs.RowPairs.{forced_lower_pair, forced_upper_pair}
use Rattle.problem_model.specs.declared.edit.Edit.{Edit}
use Rattle.problem_model.specs.declared.edit.Edit.TheVariants.{DeleteRow}
use Rattle.problem_model.specs.Allowed.{AreAllowed, EntriesFirst, NoEntries}
use Rattle.problem_model.specs.EditedPrograms.{programs_edited}
use Rattle.problem_model.specs.Edits.{bounds_moved, bounds_set}
use Rattle.problem_model.specs.Living.{all_flags_edited}
use Rattle.problem_model.specs.NewNumbers.{EditIsSided}
use Rattle.problem_model.specs.Offsets.{added_by}
use Rattle.problem_model.specs.Problems.{row_at, column_at, sides_at, bounds_at, no_bounds, row_entries, IsSparse}
use Rattle.problem_model.specs.Showing.{end_if, reach_low, reach_high, shown}
use Rattle.problem_model.specs.Sparse.{Sparse}
use Rattle.problem_laws.proofs.AtIds.{row_inside}
use Rattle.problem_laws.proofs.Entries.{has-live_only, row_entries-ascend, row_entries-live}
use Rattle.problem_laws.proofs.Terms.{dense-absent, dense-cons_other, dense-cons_same, dense-named, has-below, has-cons_other, has-cons_same}
use Rattle.rule_words.specs.Owed.{Owes, RuleOwes}
use Rattle.rule_words.proofs.Coefficients.{coefficient_in_row, end_live}
use Rattle.rule_words.proofs.EndTestsSay.{not_true}
use Rattle.rule_words.proofs.Named.{ids_on, nothing, one_on, one_sided}
use Rattle.edit_laws.proofs.Reducing.{by_edits, pairs_by_edits}
use Rattle.ray_step_laws.proofs.Records as ray
use Rattle.ray_step_laws.proofs.RaysBack.{rays_by_edits}
use Rattle.row_spans.specs.declared.span.Extreme.{Extreme}
use Rattle.row_spans.specs.declared.span.Extreme.TheVariants.{Least, Greatest}
use Rattle.row_spans.specs.Spans.{span_of, spans_of}
use Rattle.activity_laws.specs.Rows.{all_in_order, has_some, on_activities}
use Rattle.activity_laws.specs.ForcingRow.{all_solid, at_lower, edits, edits_by, enabled, end_of, fixed_at_end, is_forcing_row, is_reached, record_by, record_of}
use Rattle.activity_laws.proofs.Rows.{known, made, row_dense, said}
use Rattle.problem_model.specs.declared.line.Bounds.{Bounds}

abbrev one_of : Bool → Option Number → Option Number → Option Number
one_of b c d = if b then c else d

-- new bounds of one column leave each semi-continuous or not as it was
semi_kept : (bs : List Bounds) (j k : ℕ) (l u : Option Number) → (get_or (slice_set bs j (bounds_moved (get_or bs j no_bounds) l u)) k no_bounds).semi ≡ (get_or bs k no_bounds).semi
semi_kept [] j k l u = refl
semi_kept (b ∷ bs) zero zero l u = refl
semi_kept (b ∷ bs) zero (suc k) l u = refl
semi_kept (b ∷ bs) (suc j) zero l u = refl
semi_kept (b ∷ bs) (suc j) (suc k) l u = semi_kept bs j k l u

-- where no span is in a semi-continuous column
not_semi : (b : Bool) → not b ≡ true → b ≡ false
not_semi true e = absurd (not_true e)
not_semi false e = refl

solid_says : (p : Sparse) (ts : List Term) → all_solid (map (span_of p) ts) ≡ true → All (λ t. (bounds_at p t.id).semi ≡ false) ts
solid_says p [] e = All-nil (λ t. (bounds_at p t.id).semi ≡ false)
solid_says p (t ∷ ts) e = let b = and_parts (not (bounds_at p t.id).semi) (all_solid (map (span_of p) ts)) e in
    All-cons (λ t. (bounds_at p t.id).semi ≡ false) t ts (not_semi (bounds_at p t.id).semi b.0) (solid_says p ts b.1)

-- ---- the edits, column by column
module _ (x : Extreme) (p : Sparse) (i : ℕ) where
  abbrev edits_on : List Term → List Edit
  edits_on ts = map (fixed_at_end x) (map (span_of p) ts) ++ DeleteRow i ∷ []

  allowed_on : (q : Sparse) (ts : List Term) → All (λ t. (column_at q t.id).live ≡ true) ts → All (λ t. (bounds_at q t.id).semi ≡ false) ts → (row_at q i).live ≡ true → AreAllowed q (edits_on ts)
  allowed_on q [] h f live = (live, tt)
  allowed_on q (t ∷ ts) h f live = (
    (All-head (λ t. (column_at q t.id).live ≡ true) t ts h, All-head (λ t. (bounds_at q t.id).semi ≡ false) t ts f),
    allowed_on (bounds_set q t.id (end_of x (span_of p t)) (end_of x (span_of p t))) ts (All-tail (λ t. (column_at q t.id).live ≡ true) t ts h)
        (λ k d l. semi_kept q.bounds t.id (get_or ts k d).id (end_of x (span_of p t)) (end_of x (span_of p t)) ∙ All-tail (λ t. (bounds_at q t.id).semi ≡ false) t ts f k d l) live,
  )

  no_entries_on : (ts : List Term) → NoEntries (edits_on ts)
  no_entries_on [] = tt
  no_entries_on (t ∷ ts) = no_entries_on ts

  ordered_on : (ts : List Term) → EntriesFirst (edits_on ts)
  ordered_on [] = tt
  ordered_on (t ∷ ts) = no_entries_on ts

  sided_on : (ts : List Term) → All EditIsSided (edits_on ts)
  sided_on [] = one_sided (DeleteRow i) tt
  sided_on (t ∷ ts) = All-cons EditIsSided (fixed_at_end x (span_of p t)) (edits_on ts) tt (sided_on ts)

  adds_on : (ts : List Term) → zero_ℚ ≡ added_by (edits_on ts)
  adds_on [] = nothing
  adds_on (t ∷ ts) = nothing ∙ ap (λ a. zero_ℚ +ℚ a) (adds_on ts)

  flags_on : (f : Flags) (ts : List Term) → all_flags_edited f (edits_on ts) ≡ all_flags_edited f (DeleteRow i ∷ [])
  flags_on f [] = refl
  flags_on f (t ∷ ts) = flags_on f ts

  -- ends that are put one after the other
  abbrev ends_put : (ℕ → Option Number) → List Term → ℕ → Option Number
  ends_put f [] = f
  ends_put f (t ∷ ts) = ends_put (put f t.id (end_of x (span_of p t))) ts

  program_on : (M : LinearProgram) (ts : List Term) → programs_edited M (edits_on ts) ≡ without_row (record M { lower_bound = ends_put M.lower_bound ts; upper_bound = ends_put M.upper_bound ts }) i
  program_on M [] = refl
  program_on M (t ∷ ts) = program_on (with_bounds M t.id (end_of x (span_of p t)) (end_of x (span_of p t))) ts

  -- the end of column k, where the row's number there is a
  abbrev end_by : ℕ → Number → Option Number
  end_by k a = end_of x (span_of p (record { id = k; value = a }))

  ends_put-at : (f : ℕ → Option Number) (ts : List Term) (m n : ℕ) → Ascends m n ts → (k : ℕ) → ends_put f ts k ≡ (if has k ts then end_by k (dense ts k) else f k)
  ends_put-at f [] m n a k = refl
  ends_put-at f (t ∷ ts) m n a k = by (cases_eq t.id k) (ends_put-at (put f t.id (end_of x (span_of p t))) ts (suc t.id) n a.3 k)
    where
      g : ℕ → Option Number
      g = put f t.id (end_of x (span_of p t))

      by : (t.id ≡ k) ⊎ (t.id ≢ k) → ends_put g ts k ≡ (if has k ts then end_by k (dense ts k) else g k) → ends_put g ts k ≡ (if has k (t ∷ ts) then end_by k (dense (t ∷ ts) k) else f k)
      by (inl e) ih = ih
          ∙ ap (λ (b : Bool). one_of b (end_by k (dense ts k)) (g k)) (has-below ts (suc t.id) n k a.3 (omega (arith, e)))
          ∙ ap g (sym e) ∙ put-same f t.id (end_of x (span_of p t))
          ∙ ap (λ (m : ℕ). end_by m t.value) e
          ∙ ap (end_by k) (sym (dense-cons_same t ts k e))
          ∙ sym (ap (λ (b : Bool). one_of b (end_by k (dense (t ∷ ts) k)) (f k)) (has-cons_same k t ts e))
      by (inr d) ih = ih
          ∙ ap₂ (one_of (has k ts)) (ap (end_by k) (sym (dense-cons_other t ts k d))) (put-other f t.id (end_of x (span_of p t)) k (λ h. d (sym h)))
          ∙ sym (ap (λ (b : Bool). one_of b (end_by k (dense (t ∷ ts) k)) (f k)) (has-cons_other k t ts d))

-- ---- signs
-- of a number that isn't 0, whether it is below 0 is told by whether it is above
turned : (a : Number) (y z : Option Number) → a ≢ zero_ℚ → (if lt_ℚ a zero_ℚ then y else z) ≡ (if lt_ℚ zero_ℚ a then z else y)
turned a y z n = by (lt_ℚ a zero_ℚ) (lt_ℚ zero_ℚ a) refl refl
  where
    by : (s t : Bool) → lt_ℚ a zero_ℚ ≡ s → lt_ℚ zero_ℚ a ≡ t → (if s then y else z) ≡ (if t then z else y)
    by true true e f = absurd (<ℚ-not (lt_true _ _ e) (<ℚ-≤ℚ (lt_true _ _ f)))
    by true false e f = refl
    by false true e f = refl
    by false false e f = absurd (n (≤ℚ_antisym (lt_false _ _ f) (lt_false _ _ e)))

-- 0 is neither below nor above 0
zero_not : lt_ℚ zero_ℚ zero_ℚ ≡ false
zero_not = by (lt_ℚ zero_ℚ zero_ℚ) refl
  where
    by : (b : Bool) → lt_ℚ zero_ℚ zero_ℚ ≡ b → lt_ℚ zero_ℚ zero_ℚ ≡ false
    by true e = absurd (<ℚ-not (lt_true _ _ e) (<ℚ-≤ℚ (lt_true _ _ e)))
    by false e = e

zero_else : (a : Number) (y z : Option Number) → a ≡ zero_ℚ → (if lt_ℚ zero_ℚ a then y else z) ≡ z
zero_else a y z e = ap (λ c. if lt_ℚ zero_ℚ c then y else z) e ∙ ap (λ (b : Bool). if b then y else z) zero_not

zero_else' : (a : Number) (y z : Option Number) → a ≡ zero_ℚ → (if lt_ℚ a zero_ℚ then y else z) ≡ z
zero_else' a y z e = ap (λ c. if lt_ℚ c zero_ℚ then y else z) e ∙ ap (λ (b : Bool). if b then y else z) zero_not

-- ---- the linear program
module _ (p : Sparse) (i : ℕ) (s : IsSparse p) (live : (row_at p i).live ≡ true) where
  abbrev M : LinearProgram
  M = shown p

  abbrev ts : List Term
  ts = row_entries p i

  row_has : (k : ℕ) → M.coefficient i k ≡ dense ts k
  row_has k = coefficient_in_row p i k ∙ ap (λ (on : Bool). if on then dense ts k else zero_ℚ) live

  -- the row has an entry there, which isn't 0, and the column is live; or its coefficient is 0
  column_on : (k : ℕ) → has k ts ≡ true → (column_at p k).live ≡ true
  column_on k e = (and_parts (column_at p k).live (has k (row_at p i).entries) (sym (has-live_only p.matrix.columns k (row_at p i).entries) ∙ e)).0

  some_there : (k : ℕ) → has k ts ≡ true → M.coefficient i k ≢ zero_ℚ
  some_there k e z = dense-named k ts 0 (length p.matrix.columns) (row_entries-ascend p i s) e (sym (row_has k) ∙ z)

  none_there : (k : ℕ) → has k ts ≡ false → M.coefficient i k ≡ zero_ℚ
  none_there k e = row_has k ∙ dense-absent k ts e

  low_is : (k : ℕ) → has k ts ≡ true → (reach_low (bounds_at p k)) ≡ M.lower_bound k
  low_is k e = sym (end_live (column_at p k).live (reach_low (bounds_at p k)) (column_on k e))

  high_is : (k : ℕ) → has k ts ≡ true → (reach_high (bounds_at p k)) ≡ M.upper_bound k
  high_is k e = sym (end_live (column_at p k).live (reach_high (bounds_at p k)) (column_on k e))

  abbrev above : Number → Option Number → Option Number → Option Number
  above a y z = if lt_ℚ zero_ℚ a then y else z

  -- the end at an entry, in the program's words
  end_there : (x : Extreme) (k : ℕ) → has k ts ≡ true → end_by x p i k (dense ts k) ≡ end_of x (record (span_of p (record { id = k; value = M.coefficient i k })) { lower = M.lower_bound k; upper = M.upper_bound k })
  end_there Least k e = ap₂ (above (dense ts k)) (low_is k e) (high_is k e) ∙ ap (λ a. above a (M.lower_bound k) (M.upper_bound k)) (sym (row_has k))
  end_there Greatest k e = ap₂ (above (dense ts k)) (high_is k e) (low_is k e) ∙ ap (λ a. above a (M.upper_bound k) (M.lower_bound k)) (sym (row_has k))

  put_at : (x : Extreme) (f : ℕ → Option Number) (k : ℕ) (b : Bool) → has k ts ≡ b → ends_put x p i f ts k ≡ (if b then end_by x p i k (dense ts k) else f k)
  put_at x f k b e = ends_put-at x p i f ts 0 (length p.matrix.columns) (row_entries-ascend p i s) k ∙ ap (λ (c : Bool). if c then end_by x p i k (dense ts k) else f k) e

  lower_greatest : (k : ℕ) → ends_put Greatest p i M.lower_bound ts k ≡ lower_at_greatest M i k
  lower_greatest k = by (has k ts) refl
    where
      by : (b : Bool) → has k ts ≡ b → ends_put Greatest p i M.lower_bound ts k ≡ lower_at_greatest M i k
      by true e = put_at Greatest M.lower_bound k true e ∙ end_there Greatest k e
      by false e = put_at Greatest M.lower_bound k false e ∙ sym (zero_else (M.coefficient i k) (M.upper_bound k) (M.lower_bound k) (none_there k e))

  upper_greatest : (k : ℕ) → ends_put Greatest p i M.upper_bound ts k ≡ upper_at_greatest M i k
  upper_greatest k = by (has k ts) refl
    where
      by : (b : Bool) → has k ts ≡ b → ends_put Greatest p i M.upper_bound ts k ≡ upper_at_greatest M i k
      by true e = put_at Greatest M.upper_bound k true e ∙ end_there Greatest k e ∙ sym (turned (M.coefficient i k) (M.lower_bound k) (M.upper_bound k) (some_there k e))
      by false e = put_at Greatest M.upper_bound k false e ∙ sym (zero_else' (M.coefficient i k) (M.lower_bound k) (M.upper_bound k) (none_there k e))

  lower_least : (k : ℕ) → ends_put Least p i M.lower_bound ts k ≡ lower_at_least M i k
  lower_least k = by (has k ts) refl
    where
      by : (b : Bool) → has k ts ≡ b → ends_put Least p i M.lower_bound ts k ≡ lower_at_least M i k
      by true e = put_at Least M.lower_bound k true e ∙ end_there Least k e ∙ sym (turned (M.coefficient i k) (M.upper_bound k) (M.lower_bound k) (some_there k e))
      by false e = put_at Least M.lower_bound k false e ∙ sym (zero_else' (M.coefficient i k) (M.upper_bound k) (M.lower_bound k) (none_there k e))

  upper_least : (k : ℕ) → ends_put Least p i M.upper_bound ts k ≡ upper_at_least M i k
  upper_least k = by (has k ts) refl
    where
      by : (b : Bool) → has k ts ≡ b → ends_put Least p i M.upper_bound ts k ≡ upper_at_least M i k
      by true e = put_at Least M.upper_bound k true e ∙ end_there Least k e
      by false e = put_at Least M.upper_bound k false e ∙ sym (zero_else (M.coefficient i k) (M.lower_bound k) (M.upper_bound k) (none_there k e))

  program_greatest : programs_edited M (edits_by Greatest p i) ≡ forced_at_lower_side M i
  program_greatest = program_on Greatest p i M ts ∙ ap₂ (λ (f g : ℕ → Option Number). without_row (record M { lower_bound = f; upper_bound = g }) i) (λ t k. lower_greatest k t) (λ t k. upper_greatest k t)

  program_least : programs_edited M (edits_by Least p i) ≡ forced_at_upper_side M i
  program_least = program_on Least p i M ts ∙ ap₂ (λ (f g : ℕ → Option Number). without_row (record M { lower_bound = f; upper_bound = g }) i) (λ t k. lower_least k t) (λ t k. upper_least k t)

-- ---- what the condition says
-- ends in order are not crossed
not_crossed : (l u : Option Number) → is_in_order l u ≡ true → AreCrossed l u → ⊥
not_crossed None u e c = c
not_crossed (Some l) None e c = c
not_crossed (Some l) (Some u) e c = <ℚ-not c ((le_ℚ-is l u).0 e)

-- an entry that isn't 0 is one of the spans
in_order_at : (p : Sparse) (k : ℕ) (ts : List Term) → all_in_order (map (span_of p) ts) ≡ true → has k ts ≡ true → is_in_order (reach_low (bounds_at p k)) (reach_high (bounds_at p k)) ≡ true
in_order_at p k [] e h = absurd (not_true h)
in_order_at p k (t ∷ ts) e h =
    let b = and_parts (is_in_order (reach_low (bounds_at p t.id)) (reach_high (bounds_at p t.id))) (all_in_order (map (span_of p) ts)) e in
    by b.0 (in_order_at p k ts b.1) (cases_eq t.id k)
  where
    by : is_in_order (reach_low (bounds_at p t.id)) (reach_high (bounds_at p t.id)) ≡ true → (has k ts ≡ true → is_in_order (reach_low (bounds_at p k)) (reach_high (bounds_at p k)) ≡ true) → (t.id ≡ k) ⊎ (t.id ≢ k)
        → is_in_order (reach_low (bounds_at p k)) (reach_high (bounds_at p k)) ≡ true
    by g ih (inl f) = subst (λ (j : ℕ). is_in_order (reach_low (bounds_at p j)) (reach_high (bounds_at p j)) ≡ true) f g
    by g ih (inr d) = ih (sym (has-cons_other k t ts d) ∙ h)

record IsReached (l e : Option Number) : Type 0 where
  number : Number
  side : l ≡ Some number
  reach : e ≡ Some number

reached : (l e : Option Number) → is_reached l e ≡ true → IsReached l e
reached None e h = absurd (not_true h)
reached (Some b) e h = record { number = b; side = refl; reach = sym ((same_end-is (Some b) e).0 h) }

either : (a b : Bool) → (a || b) ≡ true → a ≡ false → b ≡ true
either true b e f = absurd (not_true (sym f))
either false b e f = e

module _ (p : Sparse) (i : ℕ) (s : IsSparse p) (live : (row_at p i).live ≡ true) (sides : is_in_order (sides_at p i).lower (sides_at p i).upper ≡ true) (bounds : all_in_order (spans_of p i) ≡ true) (solid : all_solid (spans_of p i) ≡ true) where
  uncrossed : IsUncrossed (shown p) i
  uncrossed = record {
    sides = λ c. not_crossed (sides_at p i).lower (sides_at p i).upper sides (as_they_are c);
    bounds = λ k l n c. by k n c (has k (row_entries p i)) refl;
  }
    where
      as_they_are : AreCrossed (end_if (row_at p i).live (sides_at p i).lower) (end_if (row_at p i).live (sides_at p i).upper) → AreCrossed (sides_at p i).lower (sides_at p i).upper
      as_they_are c = subst (λ (on : Bool). AreCrossed (end_if on (sides_at p i).lower) (end_if on (sides_at p i).upper)) live c

      by : (k : ℕ) → (shown p).coefficient i k ≢ zero_ℚ → AreCrossed ((shown p).lower_bound k) ((shown p).upper_bound k) → (b : Bool) → has k (row_entries p i) ≡ b → ⊥
      by k n c true e = not_crossed ((shown p).lower_bound k) ((shown p).upper_bound k) (sym (ap₂ is_in_order (low_is p i s live k e) (high_is p i s live k e)) ∙ in_order_at p k (row_entries p i) bounds e) c
      by k n c false e = n (none_there p i s live k e)

  at_lower_side : is_reached (sides_at p i).lower (greatest (shown p) i) ≡ true → IsForcedAtLowerSide (shown p) i
  at_lower_side h = let r = reached (sides_at p i).lower (greatest (shown p) i) h in record {
    row = row_inside p i live;
    number = r.number;
    side = end_live (row_at p i).live (sides_at p i).lower live ∙ r.side;
    reach = r.reach;
    uncrossed = uncrossed;
  }

  at_upper_side : is_reached (sides_at p i).upper (least (shown p) i) ≡ true → IsForcedAtUpperSide (shown p) i
  at_upper_side h = let r = reached (sides_at p i).upper (least (shown p) i) h in record {
    row = row_inside p i live;
    number = r.number;
    side = end_live (row_at p i).live (sides_at p i).upper live ∙ r.side;
    reach = r.reach;
    uncrossed = uncrossed;
  }

  abbrev ls : List Term
  ls = row_entries p i

  owes_by : (b : Bool) → (is_reached (sides_at p i).lower (greatest (shown p) i) || is_reached (sides_at p i).upper (least (shown p) i)) ≡ true → is_reached (sides_at p i).lower (greatest (shown p) i) ≡ b
      → Owes p (edits_by (if b then Greatest else Least) p i) (record_by (if b then Lower else Upper) p i)
  owes_by true h e = record {
    allowed = allowed_on Greatest p i p ls (row_entries-live p i) (solid_says p ls solid) live;
    ordered = ordered_on Greatest p i ls;
    reduces = by_edits p (edits_by Greatest p i) (forced_at_lower_side (shown p) i) (λ x. x) zero_ℚ s (allowed_on Greatest p i p ls (row_entries-live p i) (solid_says p ls solid) live)
        (program_greatest p i s live) (adds_on Greatest p i ls) (forced_at_lower_side_keeps (shown p) i (at_lower_side e) Min);
    pairs = λ continuous. pairs_by_edits p (edits_by Greatest p i) (forced_at_lower_side (shown p) i) (undone_pair (record_by Lower p i)) s (allowed_on Greatest p i p ls (row_entries-live p i) (solid_says p ls solid) live)
        (program_greatest p i s live) (forced_lower_pair (shown p) i ls (at_lower_side e) (row_entries-ascend p i s) (row_dense p i live));
    rays = λ continuous. rays_by_edits p (edits_by Greatest p i) (forced_at_lower_side (shown p) i) (record_by Lower p i) s (allowed_on Greatest p i p ls (row_entries-live p i) (solid_says p ls solid) live)
        (program_greatest p i s live) (ray.forcing_lower false false (shown p) i ls (at_lower_side e) (row_entries-ascend p i s) (row_dense p i live));
    sided = λ numbers w. sided_on Greatest p i ls;
    sound = (row_inside p i live, row_entries-ascend p i s);
    names = (one_on p.matrix.rows i live, ids_on p.matrix.columns (row_at p i).entries);
    deletes = flags_on Greatest p i _ ls;
  }
  owes_by false h e = let f = at_upper_side (either (is_reached (sides_at p i).lower (greatest (shown p) i)) (is_reached (sides_at p i).upper (least (shown p) i)) h e) in record {
    allowed = allowed_on Least p i p ls (row_entries-live p i) (solid_says p ls solid) live;
    ordered = ordered_on Least p i ls;
    reduces = by_edits p (edits_by Least p i) (forced_at_upper_side (shown p) i) (λ x. x) zero_ℚ s (allowed_on Least p i p ls (row_entries-live p i) (solid_says p ls solid) live)
        (program_least p i s live) (adds_on Least p i ls) (forced_at_upper_side_keeps (shown p) i f Min);
    pairs = λ continuous. pairs_by_edits p (edits_by Least p i) (forced_at_upper_side (shown p) i) (undone_pair (record_by Upper p i)) s (allowed_on Least p i p ls (row_entries-live p i) (solid_says p ls solid) live)
        (program_least p i s live) (forced_upper_pair (shown p) i ls f (row_entries-ascend p i s) (row_dense p i live));
    rays = λ continuous. rays_by_edits p (edits_by Least p i) (forced_at_upper_side (shown p) i) (record_by Upper p i) s (allowed_on Least p i p ls (row_entries-live p i) (solid_says p ls solid) live)
        (program_least p i s live) (ray.forcing_upper false false (shown p) i ls f (row_entries-ascend p i s) (row_dense p i live));
    sided = λ numbers w. sided_on Least p i ls;
    sound = (row_inside p i live, row_entries-ascend p i s);
    names = (one_on p.matrix.rows i live, ids_on p.matrix.columns (row_at p i).entries);
    deletes = flags_on Least p i _ ls;
  }

pub owes : RuleOwes enabled edits record_of
owes p i s e =
    let r = said is_forcing_row p i e in
    let l : Option Number = (sides_at p i).lower in
    let u : Option Number = (sides_at p i).upper in
    let either_one : Bool = on_activities (λ a b. is_reached l b || is_reached u a) (spans_of p i) in
    let h = and_parts (has_some (spans_of p i)) (all_solid (spans_of p i) && either_one) r.holds in
    let g = and_parts (all_solid (spans_of p i)) either_one h.1 in
    let k = known p i (λ a b. is_reached l b || is_reached u a) s r.live g.1 in
    owes_by p i s r.live r.sides r.bounds g.0 (at_lower p i) k.holds (sym (made p i (λ a b. is_reached l b) k.low k.high))
