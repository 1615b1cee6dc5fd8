-- K16.
use Rattle.std.proofs.Common.{◌≡◌, ◌≢◌, ◌⊎◌, inl, inr, ℕ, Bool, true, false, not, ◌&&◌, ◌||◌, nat_eq, List, [], ◌∷◌, Option, Some, None, refl, sym, ap, ◌∙◌, subst}
use Rattle.std.specs.Prelude.{IfSome, if◌then◌else◌}
use Rattle.std.specs.List.{All}
use Rattle.std.proofs.lemmas.Bool.{and_parts, eq-eqb}
use Rattle.std.proofs.lemmas.List.Elements.{All-cons, All-head}
use Rattle.fractions.specs.Number.{Number, zero_ℚ, one_ℚ, neg_ℚ, ◌*ℚ◌}
use Rattle.fractions.specs.Compare.{eq_ℚ}
use Rattle.fractions.specs.Ends.{meet_high, meet_low, minus_ends, plus}
use Rattle.fractions.specs.Floor.{IsWhole, is_whole}
use Rattle.fractions.specs.Total.{put}
use Rattle.fractions.specs.Comparisons.{eq_ℚ-is, le_ℚ-is}
use Rattle.fractions.proofs.Floors.{is_whole-is}
use Rattle.fractions.proofs.Totals.{put-same, put-other, at_or_off}
use Rattle.lp_model.specs.declared.program.Sense.TheVariants.{Min}
use Rattle.lp_model.specs.declared.terms.Term.{Term}
use Rattle.lp_model.specs.EndTests.{is_broken, is_in_order}
use Rattle.lp_model.specs.LinearProgram.{LinearProgram}
use Rattle.lp_model.specs.Reductions.{Reduces, ReducesPairs}
use Rattle.lp_model.specs.Sparse.{dense}
use Rattle.lp_model.specs.Vectors.{Vector}
use Rattle.lp_theory.specs.Activities.{greatest_term, least_term}
use Rattle.lp_theory.specs.MetEnds.{lower_over, upper_over}
use Rattle.lp_theory.specs.Nearest as nearest
use Rattle.lp_theory.specs.Nearest.{InOrder}
use Rattle.lp_columns.specs.ParallelColumns.{AreContinuous, AreParallelColumns, AreWhole, HasWholeBounds, parallel_columns_joined, part_of, undo_parallel_columns}
use Rattle.lp_columns.proofs.ParallelColumns.{parallel_columns}
use Rattle.undo_records.specs.Near.{near, near_within}
use Rattle.undo_records.specs.ParallelColumns.{part}
use Rattle.undo_records.specs.Lift.{undone}
use Rattle.undo_records.specs.Ids.{is_on}
use Rattle.undo_records.specs.declared.undo.Undo.{Undo}
use Rattle.undo_records.specs.declared.undo.Undo.TheVariants.{ParallelColumns}
use Rattle.pair_laws.specs.LiftPair.{undone_pair}
use Rattle.pair_laws.specs.Records as records
use Rattle.pair_laws.proofs.ColumnPairs.{parallel_columns_pair}
use Rattle.problem_model.specs.declared.edit.Edit.TheVariants.{DeleteColumn, SetBounds}
use Rattle.problem_model.specs.declared.part.Contents.{Contents}
use Rattle.problem_model.specs.declared.part.Contents.TheVariants as holding
use Rattle.problem_model.specs.EditedPrograms.{programs_edited}
use Rattle.problem_model.specs.Offsets.{added_by}
use Rattle.problem_model.specs.Problems.{IsSparse, bounds_at, column_at, column_entries, cost_at}
use Rattle.problem_model.specs.Raised.{committed}
use Rattle.problem_model.specs.Showing.{coefficient_of, shown}
use Rattle.problem_model.specs.Sparse.{Sparse}
use Rattle.problem_laws.proofs.AtIds.{column_inside}
use Rattle.problem_laws.proofs.Entries.{column_entries-ascend}
use Rattle.edit_laws.proofs.Reducing.{by_edits, pairs_by_edits}
use Rattle.ray_step_laws.proofs.Records as ray
use Rattle.ray_step_laws.proofs.RaysBack.{rays_by_edits}
use Rattle.rule_words.specs.Ray.{StepsBack}
use Rattle.rule_words.specs.StepBack.{weighed_in}
use Rattle.rule_words.specs.Entries.{has_none}
use Rattle.rule_words.specs.Owed.{Owes}
use Rattle.rule_words.proofs.Coefficients.{coefficient_in_column}
use Rattle.rule_words.proofs.EndTestsSay.{not_true}
use Rattle.rule_words.specs.Multiples.{are_times, factor_of}
use Rattle.rule_words.proofs.Multiples.{times_at, times_some}
use Rattle.rule_words.proofs.Named.{lives, none_on, nothing_twice, one_on, two_sided}
use Rattle.row_spans.specs.Exact.{fits}
use Rattle.parallel_laws.specs.ParallelColumns.{are_in_order, are_of_a_kind, are_whole, edits, enabled, factor, is_multiple, is_parallel, is_unit, joined_lower, joined_upper, record_of}
use Rattle.problem_model.specs.Parts.{bounds_held}
use Rattle.rule_words.proofs.Solid.{gap_solid, low_shown, high_shown}

-- ---- ends
in_order : (l u : Option Number) → is_in_order l u ≡ true → InOrder l u
in_order None u e = tt
in_order (Some l) None e = tt
in_order (Some l) (Some u) e = (le_ℚ-is l u).0 e

not_broken : (b : Bool) → not (not b) ≡ true → b ≡ true
not_broken true e = refl
not_broken false e = e

whole_end : (o : Option Number) → not (is_broken o) ≡ true → IfSome o IsWhole
whole_end None e = tt
whole_end (Some q) e = (is_whole-is q).0 (not_broken (is_whole q) e)

-- ---- kinds
-- both are whole, with whole or infinite bounds, and s is 1 or -1
pub record BothWhole (s : Number) (l u : Option Number) (w : Bool) (m n : Option Number) (x : Bool) : Type 0 where
  pub first : w ≡ true
  pub second : x ≡ true
  pub factor : (s ≡ one_ℚ) ⊎ (s ≡ neg_ℚ one_ℚ)
  pub lower : IfSome l IsWhole
  pub upper : IfSome u IsWhole
  pub other_lower : IfSome m IsWhole
  pub other_upper : IfSome n IsWhole

-- both are continuous
pub record NoneWhole (w x : Bool) : Type 0 where
  pub first : w ≡ false
  pub second : x ≡ false

unit_is : (s : Number) → is_unit s ≡ true → (s ≡ one_ℚ) ⊎ (s ≡ neg_ℚ one_ℚ)
unit_is s e = by (eq_ℚ s one_ℚ) refl e
  where
    by : (b : Bool) → eq_ℚ s one_ℚ ≡ b → (b || eq_ℚ s (neg_ℚ one_ℚ)) ≡ true → (s ≡ one_ℚ) ⊎ (s ≡ neg_ℚ one_ℚ)
    by true f g = inl ((eq_ℚ-is s one_ℚ).0 f)
    by false f g = inr ((eq_ℚ-is s (neg_ℚ one_ℚ)).0 g)

module _ (s : Number) (l u m n : Option Number) where
  kinds : (w x : Bool) → are_of_a_kind s (holding.Bounds l u w) (holding.Bounds m n x) ≡ true → NoneWhole w x ⊎ BothWhole s l u w m n x
  kinds false false e = inl (record { first = refl; second = refl })
  kinds false true e = absurd (not_true e)
  kinds true false e = absurd (not_true e)
  kinds true true e =
      let a = and_parts (is_unit s) (are_whole l u && are_whole m n) e in
      let b = and_parts (are_whole l u) (are_whole m n) a.1 in
      let c = and_parts (not (is_broken l)) (not (is_broken u)) b.0 in
      let d = and_parts (not (is_broken m)) (not (is_broken n)) b.1 in
      inr (record {
        first = refl;
        second = refl;
        factor = unit_is s a.0;
        lower = whole_end l c.0;
        upper = whole_end u c.1;
        other_lower = whole_end m d.0;
        other_upper = whole_end n d.1;
      })

-- ---- what the condition says: of two live columns that differ
pub record Said (first second semi other : Bool) (j k : ℕ) (ts us : List Term) (c d : Number) (l u : Option Number) (w : Bool) (m n : Option Number) (x : Bool) : Type 0 where
  pub first_live : first ≡ true
  pub second_live : second ≡ true
  pub first_solid : semi ≡ false
  pub second_solid : other ≡ false
  pub differ : j ≢ k
  pub first_bounds : InOrder l u
  pub second_bounds : InOrder m n
  pub kinds : NoneWhole w x ⊎ BothWhole (factor_of ts us) l u w m n x
  pub some : not (has_none ts) ≡ true
  pub room : fits (factor_of ts us) ≡ true
  pub costs : c ≡ factor_of ts us *ℚ d
  pub entries : are_times (factor_of ts us) ts us ≡ true

differ_of : (j k : ℕ) → not (nat_eq j k) ≡ true → j ≢ k
differ_of j k h e = not_true (sym (ap not (eq-eqb j k e)) ∙ h)

module _ (j k : ℕ) (ts us : List Term) (c d : Number) (l u : Option Number) (w : Bool) (m n : Option Number) (x : Bool) where
  abbrev s : Number
  s = factor_of ts us

  abbrev one : Contents
  one = holding.Bounds l u w

  abbrev two : Contents
  two = holding.Bounds m n x

  parts_said : is_parallel j k (holding.Column ts c) (holding.Column us d) one two ≡ true → Said true true false false j k ts us c d l u w m n x
  parts_said e =
      let e1 = and_parts (not (nat_eq j k)) (are_in_order one two && (are_of_a_kind s one two && is_multiple s ts c us d)) e in
      let e2 = and_parts (are_in_order one two) (are_of_a_kind s one two && is_multiple s ts c us d) e1.1 in
      let e3 = and_parts (are_of_a_kind s one two) (is_multiple s ts c us d) e2.1 in
      let bounds = and_parts (is_in_order l u) (is_in_order m n) e2.0 in
      let e4 = and_parts (not (has_none ts)) (fits s && (eq_ℚ c (s *ℚ d) && are_times s ts us)) e3.1 in
      let e5 = and_parts (fits s) (eq_ℚ c (s *ℚ d) && are_times s ts us) e4.1 in
      let e6 = and_parts (eq_ℚ c (s *ℚ d)) (are_times s ts us) e5.1 in
      record {
        first_live = refl;
        second_live = refl;
        first_solid = refl;
        second_solid = refl;
        differ = differ_of j k e1.0;
        first_bounds = in_order l u bounds.0;
        second_bounds = in_order m n bounds.1;
        kinds = kinds s l u m n w x e3.0;
        some = e4.0;
        room = e5.0;
        costs = (eq_ℚ-is c (s *ℚ d)).0 e6.0;
        entries = e6.1;
      }

  says : (a b semi other : Bool) → is_parallel j k (if a then holding.Column ts c else holding.Gone) (if b then holding.Column us d else holding.Gone) (if a then bounds_held semi l u w else holding.Gone) (if b then bounds_held other m n x else holding.Gone) ≡ true
      → Said a b semi other j k ts us c d l u w m n x
  says true true true other e = absurd (not_true (and_parts (not (nat_eq j k)) false e).1)
  says true true false true e = absurd (not_true (and_parts (not (nat_eq j k)) false e).1)
  says true true false false e = parts_said e
  says true false semi other e = absurd (not_true e)
  says false b semi other e = absurd (not_true e)

abbrev pub SaidAt : Sparse → ℕ → ℕ → Type 0
SaidAt p j k = Said (column_at p j).live (column_at p k).live (bounds_at p j).semi (bounds_at p k).semi j k (column_entries p j) (column_entries p k) (cost_at p j) (cost_at p k) (bounds_at p j).lower (bounds_at p j).upper (bounds_at p j).whole
    (bounds_at p k).lower (bounds_at p k).upper (bounds_at p k).whole

pub said : (p : Sparse) (j k : ℕ) → enabled p j k ≡ true → SaidAt p j k
said p j k = says j k (column_entries p j) (column_entries p k) (cost_at p j) (cost_at p k) (bounds_at p j).lower (bounds_at p j).upper (bounds_at p j).whole (bounds_at p k).lower (bounds_at p k).upper (bounds_at p k).whole
    (column_at p j).live (column_at p k).live (bounds_at p j).semi (bounds_at p k).semi

-- ---- the number nearest to 0
near_same : (l u : Option Number) → near l u ≡ nearest.near l u
near_same None None = refl
near_same None (Some u) = refl
near_same (Some l) None = refl
near_same (Some l) (Some u) = refl

part_same : (s : Number) (l u m n : Option Number) (q : Number) → part_of s l u m n q ≡ near_within s (minus_ends (Some q) n) (minus_ends (Some q) m) l u
part_same s l u m n q = sym (near_same (meet_low l (lower_over s (minus_ends (Some q) n) (minus_ends (Some q) m))) (meet_high u (upper_over s (minus_ends (Some q) n) (minus_ends (Some q) m))))

module _ (p : Sparse) (sp : IsSparse p) (j k : ℕ) (f : SaidAt p j k) where
  abbrev M : LinearProgram
  M = shown p

  abbrev ts : List Term
  ts = column_entries p j

  abbrev us : List Term
  us = column_entries p k

  abbrev q : Number
  q = factor p j k

  pub factor_some : q ≢ zero_ℚ
  factor_some = times_some q ts us 0 _ (column_entries-ascend p j sp) f.some f.entries

  -- ---- what is shown of both columns
  in_column : (i c : ℕ) → (column_at p c).live ≡ true → coefficient_of p i c ≡ dense (column_entries p c) i
  in_column i c live = coefficient_in_column p i c sp.matrix ∙ ap (λ (on : Bool). if on then dense (column_entries p c) i else zero_ℚ) live

  entries_are : (i : ℕ) → M.coefficient i j ≡ q *ℚ M.coefficient i k
  entries_are i = in_column i j f.first_live ∙ times_at q ts us f.entries i ∙ ap (λ (a : Number). q *ℚ a) (sym (in_column i k f.second_live))

  cost_of : (c : ℕ) → (column_at p c).live ≡ true → M.costs c ≡ cost_at p c
  cost_of c live = ap (λ (on : Bool). if on then cost_at p c else zero_ℚ) live

  costs_are : M.costs j ≡ q *ℚ M.costs k
  costs_are = cost_of j f.first_live ∙ f.costs ∙ ap (λ (a : Number). q *ℚ a) (sym (cost_of k f.second_live))

  lower_of : (c : ℕ) → (column_at p c).live ≡ true → (bounds_at p c).semi ≡ false → M.lower_bound c ≡ (bounds_at p c).lower
  lower_of c live solid = low_shown p c live solid

  upper_of : (c : ℕ) → (column_at p c).live ≡ true → (bounds_at p c).semi ≡ false → M.upper_bound c ≡ (bounds_at p c).upper
  upper_of c live solid = high_shown p c live solid

  bounds_of : (c : ℕ) → (column_at p c).live ≡ true → (bounds_at p c).semi ≡ false → InOrder (bounds_at p c).lower (bounds_at p c).upper → InOrder (M.lower_bound c) (M.upper_bound c)
  bounds_of c live solid h = subst (λ (e : Option Number). InOrder e (M.upper_bound c)) (sym (lower_of c live solid)) (subst (λ (e : Option Number). InOrder (bounds_at p c).lower e) (sym (upper_of c live solid)) h)

  whole_of : (c : ℕ) → (column_at p c).live ≡ true → M.whole c ≡ (bounds_at p c).whole
  whole_of c live = ap (λ (on : Bool). on && (bounds_at p c).whole) live

  whole_bounds : (c : ℕ) → (column_at p c).live ≡ true → (bounds_at p c).semi ≡ false → IfSome (bounds_at p c).lower IsWhole → IfSome (bounds_at p c).upper IsWhole → HasWholeBounds M c
  whole_bounds c live solid h g = record {
    lower = subst (λ (e : Option Number). IfSome e IsWhole) (sym (lower_of c live solid)) h;
    upper = subst (λ (e : Option Number). IfSome e IsWhole) (sym (upper_of c live solid)) g;
  }

  kinds_are : NoneWhole (bounds_at p j).whole (bounds_at p k).whole
      ⊎ BothWhole q (bounds_at p j).lower (bounds_at p j).upper (bounds_at p j).whole (bounds_at p k).lower (bounds_at p k).upper (bounds_at p k).whole
      → AreContinuous M j k ⊎ AreWhole M j k q
  kinds_are (inl h) = inl (record { first = whole_of j f.first_live ∙ h.first; second = whole_of k f.second_live ∙ h.second })
  kinds_are (inr h) = inr (record {
    first = whole_of j f.first_live ∙ h.first;
    second = whole_of k f.second_live ∙ h.second;
    first_bounds = whole_bounds j f.first_live f.first_solid h.lower h.upper;
    second_bounds = whole_bounds k f.second_live f.second_solid h.other_lower h.other_upper;
    factor = h.factor;
  })

  are_parallel : AreParallelColumns M j k q
  are_parallel = record {
    first = column_inside p j f.first_live;
    second = column_inside p k f.second_live;
    differ = f.differ;
    factor = factor_some;
    entries = λ i l. entries_are i;
    costs = costs_are;
    first_bounds = bounds_of j f.first_live f.first_solid f.first_bounds;
    second_bounds = bounds_of k f.second_live f.second_solid f.second_bounds;
    kinds = kinds_are f.kinds;
    first_solid = gap_solid (column_at p j).live (bounds_at p j) f.first_solid;
    second_solid = gap_solid (column_at p k).live (bounds_at p k) f.second_solid;
  }

  -- ---- what the edits make of it
  apart_puts : {A : Type 0} (g : ℕ → A) (x y : A) (z : ℕ) → put (put g k y) j x z ≡ put (put g j x) k y z
  apart_puts g x y = at_or_off (λ z. put (put g k y) j x z ≡ put (put g j x) k y z) j
      (put-same (put g k y) j x ∙ sym (put-other (put g j x) k y j f.differ ∙ put-same g j x))
      (λ z n. put-other (put g k y) j x z n ∙ at_or_off (λ z. z ≢ j → put g k y z ≡ put (put g j x) k y z) k
      (λ m. put-same g k y ∙ sym (put-same (put g j x) k y))
      (λ z o m. put-other g k y z o ∙ sym (put-other (put g j x) k y z o ∙ put-other g j x z m)) z n)

  lower_is : joined_lower p j k ≡ plus (M.lower_bound k) (least_term q (M.lower_bound j) (M.upper_bound j))
  lower_is t = plus (sym (low_shown p k f.second_live f.second_solid) t) (least_term q (sym (low_shown p j f.first_live f.first_solid) t) (sym (high_shown p j f.first_live f.first_solid) t))

  upper_is : joined_upper p j k ≡ plus (M.upper_bound k) (greatest_term q (M.lower_bound j) (M.upper_bound j))
  upper_is t = plus (sym (high_shown p k f.second_live f.second_solid) t) (greatest_term q (sym (low_shown p j f.first_live f.first_solid) t) (sym (high_shown p j f.first_live f.first_solid) t))

  shows : programs_edited M (edits p j k) ≡ parallel_columns_joined M j k q
  shows t = record (parallel_columns_joined M j k q) {
    lower_bound = λ c. (apart_puts M.lower_bound None (joined_lower p j k) c ∙ ap (λ (e : Option Number). put (put M.lower_bound j None) k e c) lower_is) t;
    upper_bound = λ c. (apart_puts M.upper_bound None (joined_upper p j k) c ∙ ap (λ (e : Option Number). put (put M.upper_bound j None) k e c) upper_is) t;
  }

  -- ---- what the record undoes
  undone_is : undo_parallel_columns j k q (M.lower_bound j) (M.upper_bound j) (M.lower_bound k) (M.upper_bound k) ≡ undone (record_of p j k)
  undone_is w x =
      ((λ z. undo_parallel_columns j k q (lower_of j f.first_live f.first_solid z) (upper_of j f.first_live f.first_solid z) (lower_of k f.second_live f.second_solid z) (upper_of k f.second_live f.second_solid z) x)
      ∙ ap (part x j k q) (part_same q (bounds_at p j).lower (bounds_at p j).upper (bounds_at p k).lower (bounds_at p k).upper (x k))) w

  reduces : Reduces Min M (shown (committed p (edits p j k))) (undone (record_of p j k)) (added_by (edits p j k))
  reduces = by_edits p (edits p j k) (parallel_columns_joined M j k q) (undone (record_of p j k)) zero_ℚ sp ((f.second_live, f.second_solid), (f.first_live, tt)) shows nothing_twice
      (subst (λ (g : Vector → Vector). Reduces Min M (parallel_columns_joined M j k q) g zero_ℚ) undone_is (parallel_columns M j k q are_parallel Min))

  -- the record holds what is shown
  record_is : records.parallel_columns M j k q ≡ record_of p j k
  record_is z = ParallelColumns (record {
    column = j;
    kept = k;
    factor = q;
    lower = lower_of j f.first_live f.first_solid z;
    upper = upper_of j f.first_live f.first_solid z;
    kept_lower = lower_of k f.second_live f.second_solid z;
    kept_upper = upper_of k f.second_live f.second_solid z;
  })

  pairs : ReducesPairs Min M (shown (committed p (edits p j k))) (undone_pair (record_of p j k))
  pairs = pairs_by_edits p (edits p j k) (parallel_columns_joined M j k q) (undone_pair (record_of p j k)) sp ((f.second_live, f.second_solid), (f.first_live, tt)) shows
      (subst (λ (u : Undo). ReducesPairs Min M (parallel_columns_joined M j k q) (undone_pair u)) record_is (parallel_columns_pair M j k q are_parallel))

  rays : StepsBack M (shown (committed p (edits p j k))) (weighed_in (record_of p j k) (shown (committed p (edits p j k))))
  rays = rays_by_edits p (edits p j k) (parallel_columns_joined M j k q) (record_of p j k) sp ((f.second_live, f.second_solid), (f.first_live, tt)) shows
      (subst (λ (u : Undo). StepsBack M (parallel_columns_joined M j k q) (weighed_in u (parallel_columns_joined M j k q))) record_is (ray.parallel_columns false false M j k q are_parallel))

  columns_on : All (λ c. is_on (lives p.matrix.columns) c ≡ true) (j ∷ k ∷ [])
  columns_on = All-cons (λ c. is_on (lives p.matrix.columns) c ≡ true) j (k ∷ [])
      (All-head (λ c. is_on (lives p.matrix.columns) c ≡ true) j [] (one_on p.matrix.columns j f.first_live)) (one_on p.matrix.columns k f.second_live)

  owes_said : Owes p (edits p j k) (record_of p j k)
  owes_said = record {
    allowed = ((f.second_live, f.second_solid), (f.first_live, tt));
    ordered = tt;
    reduces = reduces;
    pairs = λ continuous. pairs;
    rays = λ continuous. rays;
    sided = λ numbers h. two_sided (SetBounds k (joined_lower p j k) (joined_upper p j k)) (DeleteColumn j) tt tt;
    sound = ((column_inside p j f.first_live, column_inside p k f.second_live, f.differ), factor_some);
    names = (none_on p.matrix.rows, columns_on);
    deletes = refl;
  }

pub owes : (p : Sparse) (j k : ℕ) → IsSparse p → enabled p j k ≡ true → Owes p (edits p j k) (record_of p j k)
owes p j k s e = owes_said p s j k (said p j k e)
