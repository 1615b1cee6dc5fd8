-- K14.
use Rattle.std.proofs.Common.{◌≡◌, ◌≢◌, ◌⊎◌, inl, inr, ℕ, Bool, true, false, not, ◌&&◌, ◌||◌, List, [], ◌∷◌, Option, Some, None, refl, sym, ap, ap₂, ◌∙◌, subst}
use Rattle.std.specs.Prelude.{if◌then◌else◌}
use Rattle.std.proofs.lemmas.Bool.{and_parts, cases_eq}
use Rattle.fractions.specs.Number.{Number, zero_ℚ}
use Rattle.fractions.specs.Order.{≤ℚ_antisym}
use Rattle.fractions.specs.Compare.{eq_ℚ, lt_ℚ}
use Rattle.fractions.specs.Ends.{less, meet_high, meet_low, minus_ends, scaled}
use Rattle.fractions.specs.Total.{put}
use Rattle.fractions.specs.Comparisons.{eq_ℚ-is}
use Rattle.fractions.proofs.Totals.{put-same, put-other}
use Rattle.lp_model.specs.EndTests.{is_fixed, is_in_order}
use Rattle.lp_model.specs.Ends.{IsSided}
use Rattle.lp_model.specs.LinearProgram.{LinearProgram}
use Rattle.lp_model.specs.Reductions.{Reduces, ReducesPairs}
use Rattle.lp_model.specs.Sparse.{sparse_total}
use Rattle.lp_model.specs.Vectors.{Vector}
use Rattle.lp_model.specs.declared.program.Sense.TheVariants.{Min}
use Rattle.lp_model.specs.declared.terms.Term.{Term}
use Rattle.lp_theory.specs.Activities.{greatest_term, least_term}
use Rattle.lp_theory.specs.MetEnds.{lower_over, upper_over}
use Rattle.lp_theory.specs.Nearest as nearest
use Rattle.lp_theory.specs.Nearest.{InOrder}
use Rattle.lp_theory.proofs.ActivityLaws.{lt_false}
use Rattle.lp_substitutions.specs.SlackColumnSingleton.{IsEquation, IsRowLeftFree, IsSlackColumnSingleton, equation_offset, moved_lower, moved_upper, slack_column_singleton_deleted, slack_column_singleton_offset, slack_column_singleton_point, slack_row_deleted, slack_value, undo_slack_column_singleton}
use Rattle.lp_substitutions.proofs.SlackColumnSingleton.{slack_dropped_reduces, slack_kept_reduces}
use Rattle.undo_records.specs.Near.{near, near_within}
use Rattle.undo_records.specs.Lift.{undone}
use Rattle.undo_records.specs.declared.side.RowFate.{RowFate}
use Rattle.undo_records.specs.declared.side.RowFate.TheVariants.{Dropped, Kept}
use Rattle.undo_records.specs.declared.undo.Undo.{Undo}
use Rattle.undo_records.specs.declared.undo.Undo.TheVariants.{SlackColumnSingleton}
use Rattle.undo_pairs.specs.LiftPair.{undone_pair}
use Rattle.pair_laws.specs.Records as records
use Rattle.pair_laws.proofs.ColumnPairs.{slack_dropped, slack_kept}
use Rattle.problem_model.specs.declared.edit.Edit.TheVariants.{DeleteColumn, DeleteRow, SetSides}
use Rattle.problem_model.specs.declared.part.Contents.TheVariants as holding
use Rattle.problem_model.specs.EditedPrograms.{programs_edited}
use Rattle.problem_model.specs.Problems.{row_at, column_at, sides_at, bounds_at, cost_at, row_entries, column_entries, IsSparse}
use Rattle.problem_model.specs.Showing.{shown}
use Rattle.problem_model.specs.Sparse.{Sparse}
use Rattle.rule_words.specs.Owed.{Owes}
use Rattle.rule_words.specs.Ray.{StepsBack}
use Rattle.rule_words.specs.StepBack.{weighed_in}
use Rattle.ray_step_laws.proofs.Records as ray
use Rattle.rule_words.proofs.Coefficients.{end_live}
use Rattle.rule_words.proofs.EndTestsSay.{fixed_ends, not_true}
use Rattle.rule_words.proofs.Named.{nothing_twice, one_on, two_sided}
use Rattle.column_laws.specs.SoleEntry.{entry_of, is_sole_at, others_of, price_of}
use Rattle.column_laws.specs.SlackColumnSingleton.{column_out, edits, enabled, fate_of, gain_of, is_equation_or_free, is_slack_column_singleton, least_at, new_lower, new_upper, record_by, record_of}
use Rattle.column_laws.proofs.SoleEntry.{IsSole, IsSoleEntry, column_on, costs_are, costs_moved, entry_is, entry_sound, in_order, named_on, not_whole, others_have, others_sound, out_allowed, owes_with, price_is, row_on, singleton, sole, sum_is, with_costs}
use Rattle.problem_model.specs.Parts.{bounds_held}
use Rattle.rule_words.proofs.Solid.{low_shown, high_shown}

-- ---- what the condition says
equation_or_free : (l u : Option Number) (c : Number) → is_equation_or_free l u c ≡ true → IsEquation l u ⊎ (c ≡ zero_ℚ)
equation_or_free l u c e = by (is_fixed l u false) refl e
  where
    by : (b : Bool) → is_fixed l u false ≡ b → (b || eq_ℚ c zero_ℚ) ≡ true → IsEquation l u ⊎ (c ≡ zero_ℚ)
    by true f g = let h = fixed_ends l u false f in inl (_, h.lower, h.upper)
    by false f g = inr ((eq_ℚ-is c zero_ℚ).0 g)

-- a live row and a live column, continuous, with its one entry in the row; nothing is crossed
pub record Said (row column semi : Bool) (i : ℕ) (es : List Term) (c : Number) (l u m n : Option Number) (w : Bool) : Type 0 where
  pub row_live : row ≡ true
  pub column_live : column ≡ true
  pub solid : semi ≡ false
  pub sides : InOrder l u
  pub bounds : InOrder m n
  pub continuous : w ≡ false
  pub sole_there : IsSole i es
  pub either : IsEquation l u ⊎ (c ≡ zero_ℚ)

says : (row column semi : Bool) (i : ℕ) (ts es : List Term) (c : Number) (l u m n : Option Number) (w : Bool)
    → is_slack_column_singleton i (if row then holding.Entries ts else holding.Gone) (if row then holding.Sides l u else holding.Gone) (if column then holding.Column es c else holding.Gone) (if column then bounds_held semi m n w else holding.Gone) ≡ true
    → Said row column semi i es c l u m n w
says true true true i ts es c l u m n w e = absurd (not_true e)
says true true false i ts es c l u m n w e =
    let e1 = and_parts (is_in_order l u) (is_in_order m n && (not w && (is_sole_at i es && is_equation_or_free l u c))) e in
    let e2 = and_parts (is_in_order m n) (not w && (is_sole_at i es && is_equation_or_free l u c)) e1.1 in
    let e3 = and_parts (not w) (is_sole_at i es && is_equation_or_free l u c) e2.1 in
    let e4 = and_parts (is_sole_at i es) (is_equation_or_free l u c) e3.1 in
    record {
      row_live = refl;
      column_live = refl;
      solid = refl;
      sides = in_order l u e1.0;
      bounds = in_order m n e2.0;
      continuous = not_whole w e3.0;
      sole_there = sole i es e4.0;
      either = equation_or_free l u c e4.1;
    }
says true false semi i ts es c l u m n w e = absurd (not_true e)
says false column semi i ts es c l u m n w e = absurd (not_true e)

abbrev pub SaidAt : Sparse → ℕ → ℕ → Type 0
SaidAt p j i = Said (row_at p i).live (column_at p j).live (bounds_at p j).semi i (column_entries p j) (cost_at p j) (sides_at p i).lower (sides_at p i).upper (bounds_at p j).lower (bounds_at p j).upper (bounds_at p j).whole

pub said : (p : Sparse) (j i : ℕ) → enabled p j i ≡ true → SaidAt p j i
said p j i = says (row_at p i).live (column_at p j).live (bounds_at p j).semi i (row_entries p i) (column_entries p j) (cost_at p j) (sides_at p i).lower (sides_at p i).upper (bounds_at p j).lower (bounds_at p j).upper (bounds_at p j).whole

-- ---- the greatest and the least of an entry times its column
least_there : (a : Number) (l u : Option Number) → a ≢ zero_ℚ → least_term a l u ≡ scaled a (least_at a l u)
unfolding least_term
least_there a l u n = by (lt_ℚ zero_ℚ a) (lt_ℚ a zero_ℚ) refl refl
  where
    by : (s t : Bool) → lt_ℚ zero_ℚ a ≡ s → lt_ℚ a zero_ℚ ≡ t → (if s then scaled a l else if t then scaled a u else Some zero_ℚ) ≡ scaled a (if s then l else u)
    by true t e f = refl
    by false true e f = refl
    by false false e f = absurd (n (≤ℚ_antisym (lt_false _ _ e) (lt_false _ _ f)))

-- ---- the number nearest to 0
near_same : (l u : Option Number) → near l u ≡ nearest.near l u
near_same None None = refl
near_same None (Some u) = refl
near_same (Some l) None = refl
near_same (Some l) (Some u) = refl

put_twice : {A : Type 0} (f : ℕ → A) (i : ℕ) (a b : A) → put (put f i a) i b ≡ put f i b
put_twice f i a b u k = at k (cases_eq k i) u
  where
    at : (k : ℕ) → (k ≡ i) ⊎ (k ≢ i) → put (put f i a) i b k ≡ put f i b k
    at k (inl e) = ap (put (put f i a) i b) e ∙ put-same (put f i a) i b ∙ sym (ap (put f i b) e ∙ put-same f i b)
    at k (inr d) = put-other (put f i a) i b k d ∙ put-other f i a k d ∙ sym (put-other f i b k d)

module _ (p : Sparse) (s : IsSparse p) (j i : ℕ) (f : SaidAt p j i) where
  there : IsSoleEntry p j i
  there = record { row = f.row_live; column = f.column_live; sole = f.sole_there; continuous = f.continuous; solid = f.solid }

  abbrev M : LinearProgram
  M = shown p

  abbrev L : Option Number
  L = (sides_at p i).lower

  abbrev U : Option Number
  U = (sides_at p i).upper

  abbrev l : Option Number
  l = (bounds_at p j).lower

  abbrev u : Option Number
  u = (bounds_at p j).upper

  abbrev a : Number
  a = entry_of p j i

  abbrev t : Number
  t = price_of p j i

  abbrev others : List Term
  others = others_of p j i

  lower_side_is : M.lower_side i ≡ L
  lower_side_is = end_live (row_at p i).live L f.row_live

  upper_side_is : M.upper_side i ≡ U
  upper_side_is = end_live (row_at p i).live U f.row_live

  lower_bound_is : M.lower_bound j ≡ l
  lower_bound_is = low_shown p j f.column_live f.solid

  upper_bound_is : M.upper_bound j ≡ u
  upper_bound_is = high_shown p j f.column_live f.solid

  cost_is : M.costs j ≡ cost_at p j
  cost_is = ap (λ (on : Bool). if on then cost_at p j else zero_ℚ) f.column_live

  a_is : M.coefficient i j ≡ a
  a_is = entry_is p s j i there

  some : a ≢ zero_ℚ
  some = (entry_sound p s j i there).2

  slack : IsSlackColumnSingleton M j i
  slack = record {
    singleton = singleton p s j i there;
    bounds = subst (λ (e : Option Number). InOrder e (M.upper_bound j)) (sym lower_bound_is) (subst (λ (e : Option Number). InOrder l e) (sym upper_bound_is) f.bounds);
    sides = subst (λ (e : Option Number). InOrder e (M.upper_side i)) (sym lower_side_is) (subst (λ (e : Option Number). InOrder L e) (sym upper_side_is) f.sides);
    equation_or_free = by f.either;
  }
    where
      by : IsEquation L U ⊎ (cost_at p j ≡ zero_ℚ) → IsEquation (M.lower_side i) (M.upper_side i) ⊎ (M.costs j ≡ zero_ℚ)
      by (inl e) = inl (e.0, lower_side_is ∙ e.1, upper_side_is ∙ e.2)
      by (inr e) = inr (cost_is ∙ e)

  moved_lower_is : new_lower p j i ≡ moved_lower M j i
  moved_lower_is = ap (minus_ends L) (sym (least_there a u l some))
      ∙ sym (ap₂ minus_ends lower_side_is (ap (λ c. greatest_term c (M.lower_bound j) (M.upper_bound j)) a_is ∙ ap₂ (greatest_term a) lower_bound_is upper_bound_is))

  moved_upper_is : new_upper p j i ≡ moved_upper M j i
  moved_upper_is = ap (minus_ends U) (sym (least_there a l u some))
      ∙ sym (ap₂ minus_ends upper_side_is (ap (λ c. least_term c (M.lower_bound j) (M.upper_bound j)) a_is ∙ ap₂ (least_term a) lower_bound_is upper_bound_is))

  offset_is : slack_column_singleton_offset M j i ≡ gain_of p j i
  offset_is = ap (λ q. equation_offset q (M.lower_side i) (M.upper_side i)) (price_is p s j i there) ∙ ap₂ (equation_offset t) lower_side_is upper_side_is

  value_is : (q : Number) → slack_value a L U l u q ≡ near_within a (less L q) (less U q) l u
  value_is q = sym (near_same (meet_low l (lower_over a (less L q) (less U q))) (meet_high u (upper_over a (less L q) (less U q))))

  undone_is : (fate : RowFate) → slack_column_singleton_point M j i ≡ undone (record_by p j i fate)
  undone_is fate w x =
      ((λ z. undo_slack_column_singleton j (a_is z) (lower_side_is z) (upper_side_is z) (lower_bound_is z) (upper_bound_is z) M.columns (put (M.coefficient i) j zero_ℚ) x)
      ∙ ap (λ q. put x j (slack_value a L U l u q)) (sym (sum_is p s j i there x))
      ∙ ap (put x j) (value_is (sparse_total others x))) w

  kept_is : programs_edited (costs_moved p s j i there) (SetSides i (new_lower p j i) (new_upper p j i) ∷ DeleteColumn j ∷ []) ≡ slack_column_singleton_deleted M j i
  kept_is z = record (slack_column_singleton_deleted M j i) {
    lower_side = put M.lower_side i (moved_lower_is z);
    upper_side = put M.upper_side i (moved_upper_is z);
    costs = costs_are p s j i there z;
  }

  dropped_is : programs_edited (costs_moved p s j i there) (DeleteColumn j ∷ DeleteRow i ∷ []) ≡ slack_row_deleted M j i
  dropped_is z = record (slack_row_deleted M j i) {
    lower_side = sym (put_twice M.lower_side i (moved_lower M j i) None) z;
    upper_side = sym (put_twice M.upper_side i (moved_upper M j i) None) z;
    costs = costs_are p s j i there z;
  }

  -- a reduction, in the record's words
  in_words : (R : LinearProgram) (fate : RowFate) → Reduces Min M R (slack_column_singleton_point M j i) (slack_column_singleton_offset M j i) → Reduces Min M R (undone (record_by p j i fate)) (gain_of p j i)
  in_words R fate h = subst (λ (k : Number). Reduces Min M R (undone (record_by p j i fate)) k) offset_is
      (subst (λ (undo : Vector → Vector). Reduces Min M R undo (slack_column_singleton_offset M j i)) (undone_is fate) h)

  -- the record holds what is shown
  record_is : (fate : RowFate) → records.slack_column_singleton M j i fate others ≡ record_by p j i fate
  record_is fate z = SlackColumnSingleton (record {
    column = j;
    row = i;
    value = a_is z;
    price = price_is p s j i there z;
    lower_side = lower_side_is z;
    upper_side = upper_side_is z;
    lower = lower_bound_is z;
    upper = upper_bound_is z;
    fate = fate;
    entries = others;
  })

  kept_pairs : ReducesPairs Min M (slack_column_singleton_deleted M j i) (undone_pair (record_by p j i Kept))
  kept_pairs = subst (λ (w : Undo). ReducesPairs Min M (slack_column_singleton_deleted M j i) (undone_pair w)) (record_is Kept)
      (slack_kept M j i others slack (others_sound p s j i there).0 (others_have p s j i there))

  dropped_pairs : IsRowLeftFree M j i → ReducesPairs Min M (slack_row_deleted M j i) (undone_pair (record_by p j i Dropped))
  dropped_pairs free = subst (λ (w : Undo). ReducesPairs Min M (slack_row_deleted M j i) (undone_pair w)) (record_is Dropped)
      (slack_dropped M j i others free (others_sound p s j i there).0 (others_have p s j i there))

  kept_rays : StepsBack M (slack_column_singleton_deleted M j i) (weighed_in (record_by p j i Kept) (slack_column_singleton_deleted M j i))
  kept_rays = subst (λ (w : Undo). StepsBack M (slack_column_singleton_deleted M j i) (weighed_in w (slack_column_singleton_deleted M j i))) (record_is Kept) (ray.slack_kept false false M j i others slack.singleton)

  dropped_rays : StepsBack M (slack_row_deleted M j i) (weighed_in (record_by p j i Dropped) (slack_row_deleted M j i))
  dropped_rays = subst (λ (w : Undo). StepsBack M (slack_row_deleted M j i) (weighed_in w (slack_row_deleted M j i))) (record_is Dropped) (ray.slack_dropped false false M j i others slack.singleton)

  left_free : new_lower p j i ≡ None → new_upper p j i ≡ None → IsRowLeftFree M j i
  left_free e g = record { slack = slack; lower = sym moved_lower_is ∙ e; upper = sym moved_upper_is ∙ g }

  owes_kept : (b c : Option Number) → new_lower p j i ≡ b → new_upper p j i ≡ c → IsSided b c → Owes p (with_costs p s j i there (gain_of p j i) (SetSides i b c ∷ DeleteColumn j ∷ [])) (record_by p j i Kept)
  owes_kept b c e g h = owes_with p s j i there (gain_of p j i) (SetSides i b c ∷ DeleteColumn j ∷ []) (slack_column_singleton_deleted M j i) (record_by p j i Kept) (record {
    allowed = λ q m. (row_on p s j i there q m, (column_on p s j i there q m, tt));
    no_entries = tt;
    nothing_added = sym nothing_twice;
    sided = two_sided (SetSides i b c) (DeleteColumn j) h tt;
    program = ap₂ (λ (x y : Option Number). programs_edited (costs_moved p s j i there) (SetSides i x y ∷ DeleteColumn j ∷ [])) (sym e) (sym g) ∙ kept_is;
    reduces = in_words (slack_column_singleton_deleted M j i) Kept (slack_kept_reduces M j i slack Min);
    pairs = kept_pairs;
    rays = kept_rays;
    sound = (entry_sound p s j i there, others_sound p s j i there);
    names = (one_on p.matrix.rows i f.row_live, named_on p s j i there);
    deletes = refl;
  })

  owes_dropped : new_lower p j i ≡ None → new_upper p j i ≡ None → Owes p (with_costs p s j i there (gain_of p j i) (DeleteColumn j ∷ DeleteRow i ∷ [])) (record_by p j i Dropped)
  owes_dropped e g = owes_with p s j i there (gain_of p j i) (DeleteColumn j ∷ DeleteRow i ∷ []) (slack_row_deleted M j i) (record_by p j i Dropped) (record {
    allowed = out_allowed p s j i there;
    no_entries = tt;
    nothing_added = sym nothing_twice;
    sided = two_sided (DeleteColumn j) (DeleteRow i) tt tt;
    program = dropped_is;
    reduces = in_words (slack_row_deleted M j i) Dropped (slack_dropped_reduces M j i (left_free e g) Min);
    pairs = dropped_pairs (left_free e g);
    rays = dropped_rays;
    sound = (entry_sound p s j i there, others_sound p s j i there);
    names = (one_on p.matrix.rows i f.row_live, named_on p s j i there);
    deletes = refl;
  })

  owes_by : (b c : Option Number) → new_lower p j i ≡ b → new_upper p j i ≡ c → Owes p (with_costs p s j i there (gain_of p j i) (column_out j i b c)) (record_by p j i (fate_of b c))
  owes_by None None e g = owes_dropped e g
  owes_by None (Some c) e g = owes_kept None (Some c) e g tt
  owes_by (Some b) None e g = owes_kept (Some b) None e g tt
  owes_by (Some b) (Some c) e g = owes_kept (Some b) (Some c) e g tt

pub owes : (p : Sparse) (j i : ℕ) → IsSparse p → enabled p j i ≡ true → Owes p (edits p j i) (record_of p j i)
owes p j i s e = owes_by p s j i (said p j i e) (new_lower p j i) (new_upper p j i) refl refl
