-- K8.
use Rattle.std.proofs.Common.{◌≡◌, ◌≢◌, ◌⊎◌, inl, inr, ℕ, suc, ◌<◌, arith, length, Bool, true, false, not, List, [], ◌∷◌, map, Option, Some, None, Result, Ok, Err, refl, sym, ap, ap₂, ◌∙◌, subst}
use Rattle.std.specs.Prelude.{if◌then◌else◌}
use Rattle.std.specs.List.{All, Contains}
use Rattle.std.proofs.lemmas.Bool.{and_parts, cases_eq, eq-eqb, ne_eqb}
use Rattle.std.proofs.lemmas.List.Elements.{All-cons, All-head, Contains-append_right}
use Rattle.fractions.specs.Number.{Number, zero_ℚ, neg_ℚ, ◌-ℚ◌}
use Rattle.fractions.specs.Division.{◌/ℚ◌}
use Rattle.fractions.specs.Order.{<ℚ-≤ℚ, ◌<ℚ◌}
use Rattle.fractions.specs.Compare.{lt_ℚ}
use Rattle.fractions.specs.Ends.{HighAbove, LowBelow, minus_ends, over}
use Rattle.fractions.specs.Comparisons.{lt_ℚ-is}
use Rattle.fractions.specs.Signs.{<ℚ-irrefl}
use Rattle.fractions.specs.declared.Past.{Past}
use Rattle.lp_model.specs.Edits.{with_bounds}
use Rattle.lp_model.specs.LinearProgram.{LinearProgram}
use Rattle.lp_model.specs.Reductions.{ReducesPairs}
use Rattle.lp_model.specs.Sparse.{dense, has}
use Rattle.lp_model.specs.declared.program.Sense.TheVariants.{Min}
use Rattle.lp_model.specs.declared.terms.Term.{Term}
use Rattle.lp_theory.specs.Activities.{greatest_rest, least_rest}
use Rattle.lp_rows.specs.BoundTightening.{IsLowerBoundTightening, IsUpperBoundTightening, implied_lower, implied_upper, lower_bound_tightened, upper_bound_tightened}
use Rattle.lp_rows.proofs.BoundTightening.{lower_bound_implied, upper_bound_implied}
use Rattle.undo_records.specs.Ids.{ids_of, is_on}
use Rattle.undo_records.specs.declared.side.Side.{Side}
use Rattle.undo_records.specs.declared.side.Side.TheVariants.{Lower, Upper}
use Rattle.undo_records.specs.declared.undo.Undo.{Undo}
use Rattle.undo_records.specs.declared.undo.Undo.TheVariants as undo
use Rattle.pair_laws.specs.LiftPair.{undone_pair}
use Rattle.pair_laws.proofs.RowPairs.{tightened_lower_pair, tightened_upper_pair}
use Rattle.problem_model.specs.declared.edit.Edit.{Edit}
use Rattle.problem_model.specs.declared.edit.Edit.TheVariants.{SetBounds}
use Rattle.problem_model.specs.declared.line.Bounds.{Bounds}
use Rattle.problem_model.specs.declared.line.Line.{Line}
use Rattle.problem_model.specs.declared.part.Contents.{Contents}
use Rattle.problem_model.specs.declared.part.Contents.TheVariants as holding
use Rattle.problem_model.specs.declared.part.Part.{Part}
use Rattle.problem_model.specs.declared.part.Part.TheVariants as part
use Rattle.problem_model.specs.EditedPrograms.{programs_edited}
use Rattle.problem_model.specs.Edits.{bounds_set}
use Rattle.problem_model.specs.Matrices.{no_line}
use Rattle.problem_model.specs.Parts.{bounds_held, contents_of}
use Rattle.problem_model.specs.Problems.{row_at, column_at, sides_at, bounds_at, no_bounds, row_entries, IsSparse}
use Rattle.problem_model.specs.Raised.{changes_after, committed, numbered_bounds, numbered_line}
use Rattle.problem_model.specs.Showing.{reach_low, reach_high, shown}
use Rattle.problem_model.specs.Sparse.{Sparse}
use Rattle.problem_laws.proofs.AtIds.{bounds_inside, bounds_set-same, column_inside, row_inside}
use Rattle.problem_laws.proofs.Entries.{has-live_only, row_entries-ascend}
use Rattle.problem_laws.proofs.Numbering.{each_at-field}
use Rattle.problem_laws.proofs.Terms.{dense-cons_other, dense-cons_same, dense-named, has-cons_other, has-cons_same}
use Rattle.rule_words.specs.Owed.{Owes}
use Rattle.rule_words.specs.Reading.{bounds_named, bounds_of as named_bounds, parts_on, terms_in}
use Rattle.rule_words.proofs.Coefficients.{coefficient_in_row, end_live}
use Rattle.rule_words.proofs.EndTestsSay.{not_true}
use Rattle.rule_words.proofs.Named.{ids_on, lives, nothing, one_on, one_sided}
use Rattle.edit_laws.proofs.Reducing.{by_edits, pairs_by_edits}
use Rattle.ray_step_laws.proofs.Records as ray
use Rattle.ray_step_laws.proofs.RaysBack.{rays_by_edits}
use Rattle.rule_words.specs.Ray.{StepsBack}
use Rattle.rule_words.specs.StepBack.{weighed_in}
use Rattle.row_spans.specs.declared.span.Extreme.TheVariants.{Least, Greatest}
use Rattle.row_spans.specs.declared.span.Span.{Span}
use Rattle.row_spans.specs.Exact.{fits, if_room, sum_fits}
use Rattle.row_spans.specs.RowSums.{rest}
use Rattle.row_spans.specs.Spans.{span_of, spans_from, spans_of}
use Rattle.row_spans.proofs.Bridge.{rest-is}
use Rattle.row_spans.proofs.Reading.{row_is_read}
use Rattle.activity_laws.specs.Rows.{heads, row_found}
use Rattle.activity_laws.specs.BoundTightening.{Improves, IsBetter, bound_set, by_lower_side, by_upper_side, edits, enabled, entry_at, has_two, holds, if_made, implied, is_better, is_tightened_at, is_bound_tightening, left_over, new_bound, old_bound, over_entry, record_of}
use Rattle.activity_laws.proofs.Rows.{row_dense, said}
use Rattle.rule_words.proofs.Solid.{low_solid, high_solid}

-- ---- the entry of a column
pub record IsFound (p : Sparse) (ts : List Term) (j : ℕ) (s : Span) : Type 0 where
  pub named : has j ts ≡ true
  pub span : s ≡ span_of p (record { id = j; value = dense ts j })

pub found : (p : Sparse) (j : ℕ) (ts : List Term) (s : Span) → entry_at j (map (span_of p) ts) ≡ Some s → IsFound p ts j s
found p j [] s e = cc
found p j (t ∷ ts) s e = by (cases_eq t.id j) (found p j ts s)
  where
    same_span : (x y : Span) → Some x ≡ Some y → x ≡ y
    same_span x y g = cc

    by : (t.id ≡ j) ⊎ (t.id ≢ j) → (entry_at j (map (span_of p) ts) ≡ Some s → IsFound p ts j s) → IsFound p (t ∷ ts) j s
    by (inl f) ih = record {
      named = has-cons_same j t ts f;
      span = same_span s (span_of p t) (sym e ∙ ap (λ (b : Bool). if b then Some (span_of p t) else entry_at j (map (span_of p) ts)) (eq-eqb t.id j f))
          ∙ ap₂ (λ (k : ℕ) (a : Number). span_of p (record { id = k; value = a })) f (sym (dense-cons_same t ts j f));
    }
    by (inr d) ih = let h = ih (sym (ap (λ (b : Bool). if b then Some (span_of p t) else entry_at j (map (span_of p) ts)) (ne_eqb t.id j d)) ∙ e) in record {
      named = has-cons_other j t ts d ∙ h.named;
      span = h.span ∙ ap (λ (a : Number). span_of p (record { id = j; value = a })) (sym (dense-cons_other t ts j d));
    }

not_semi : (b : Bool) → not b ≡ true → b ≡ false
not_semi true e = absurd (not_true e)
not_semi false e = refl

-- what the condition says of the entry of column j
pub record Tightened (p : Sparse) (ts : List Term) (j : ℕ) (side : Side) (l u : Option Number) (ss : List Span) : Type 0 where
  pub named : has j ts ≡ true
  pub solid : (bounds_at p j).semi ≡ false
  pub better : is_better side (old_bound side (bounds_at p j).lower (bounds_at p j).upper) (implied side j (dense ts j) l u ss) ≡ true

tightened : (p : Sparse) (ts : List Term) (j : ℕ) (side : Side) (l u : Option Number) (ss : List Span) → is_tightened_at side j l u ss (entry_at j (map (span_of p) ts)) ≡ true → Tightened p ts j side l u ss
tightened p ts j side l u ss e = by (entry_at j (map (span_of p) ts)) refl e
  where
    by : (o : Option Span) → entry_at j (map (span_of p) ts) ≡ o → is_tightened_at side j l u ss o ≡ true → Tightened p ts j side l u ss
    by None f h = absurd (not_true h)
    by (Some s) f h =
        let g = found p j ts s f in
        let b = and_parts (not s.semi) (is_better side (old_bound side s.lower s.upper) (implied side j s.value l u ss)) h in
        let solid : (bounds_at p j).semi ≡ false = sym (ap (λ (x : Span). x.semi) g.span) ∙ not_semi s.semi b.0 in
        record {
          named = g.named;
          solid = solid;
          better = sym (ap₂ (λ (x y : Option Number). is_better side (old_bound side x y) (implied side j (dense ts j) l u ss)) (low_solid (bounds_at p j) solid) (high_solid (bounds_at p j) solid))
              ∙ sym (ap (λ (x : Span). is_better side (old_bound side x.lower x.upper) (implied side j x.value l u ss)) g.span) ∙ b.1;
        }

-- ---- a bound that is made is the implied one
pub record IsMade (a : Number) (side : Option Number) (r : Result (Option Number) Past) (b : Number) : Type 0 where
  pub other : Option Number
  pub known : r ≡ Ok other
  pub bound : over (minus_ends side other) a ≡ Some b

pub is_made : (a : Number) (side : Option Number) (r : Result (Option Number) Past) (b : Number) → left_over a side r ≡ Some b → IsMade a side r b
is_made a None r b e = cc
is_made a (Some q) (Err x) b e = cc
is_made a (Some q) (Ok None) b e = cc
is_made a (Some q) (Ok (Some r)) b e = by (sum_fits q (neg_ℚ r)) e
  where
    quotient : (y : Bool) → if_made (if_room y ((q -ℚ r) /ℚ a)) ≡ Some b → IsMade a (Some q) (Ok (Some r)) b
    quotient true f = record { other = Some r; known = refl; bound = f }
    quotient false f = cc

    by : (x : Bool) → over_entry a (if_room x (q -ℚ r)) ≡ Some b → IsMade a (Some q) (Ok (Some r)) b
    by true f = quotient (fits ((q -ℚ r) /ℚ a)) f
    by false f = cc

-- a better bound is finite
record IsMadeBetter (side : Side) (old new : Option Number) : Type 0 where
  bound : Number
  made : new ≡ Some bound
  better : IsBetter side old bound

better_is : (side : Side) (old new : Option Number) → is_better side old new ≡ true → IsMadeBetter side old new
better_is side old None e = absurd (not_true e)
better_is Lower None (Some b) e = record { bound = b; made = refl; better = tt }
better_is Lower (Some a) (Some b) e = record { bound = b; made = refl; better = (lt_ℚ-is a b).0 e }
better_is Upper None (Some b) e = record { bound = b; made = refl; better = tt }
better_is Upper (Some a) (Some b) e = record { bound = b; made = refl; better = (lt_ℚ-is b a).0 e }

low_better : (old : Option Number) (b : Number) → IsBetter Lower old b → LowBelow old (Some b)
low_better None b h = tt
low_better (Some a) b h = <ℚ-≤ℚ h

high_better : (old : Option Number) (b : Number) → IsBetter Upper old b → HighAbove old (Some b)
high_better None b h = tt
high_better (Some a) b h = <ℚ-≤ℚ h

module _ (p : Sparse) (i j : ℕ) (s : IsSparse p) (live : (row_at p i).live ≡ true) (named : has j (row_entries p i) ≡ true) (solid : (bounds_at p j).semi ≡ false) where
  abbrev M : LinearProgram
  M = shown p

  abbrev a : Number
  a = dense (row_entries p i) j

  abbrev l : Option Number
  l = (sides_at p i).lower

  abbrev u : Option Number
  u = (sides_at p i).upper

  column_on : (column_at p j).live ≡ true
  column_on = (and_parts (column_at p j).live (has j (row_at p i).entries) (sym (has-live_only p.matrix.columns j (row_at p i).entries) ∙ named)).0

  entry_is : M.coefficient i j ≡ a
  entry_is = coefficient_in_row p i j ∙ ap (λ (on : Bool). if on then dense (row_entries p i) j else zero_ℚ) live

  entry : M.coefficient i j ≢ zero_ℚ
  entry z = dense-named j (row_entries p i) 0 (length p.matrix.columns) (row_entries-ascend p i s) named (sym entry_is ∙ z)

  from_lower : (b : Number) → by_lower_side j a l (spans_of p i) ≡ Some b → over (minus_ends (M.lower_side i) (greatest_rest M i j)) (M.coefficient i j) ≡ Some b
  from_lower b e = let m = is_made a l (rest Greatest j (spans_of p i)) b e in
      ap₂ (λ (x : Option Number) (c : Number). over (minus_ends x (greatest_rest M i j)) c) (end_live (row_at p i).live l live) entry_is
      ∙ ap (λ (x : Option Number). over (minus_ends l x) a) (sym (rest-is p i j Greatest m.other s live m.known))
      ∙ m.bound

  from_upper : (b : Number) → by_upper_side j a u (spans_of p i) ≡ Some b → over (minus_ends (M.upper_side i) (least_rest M i j)) (M.coefficient i j) ≡ Some b
  from_upper b e = let m = is_made a u (rest Least j (spans_of p i)) b e in
      ap₂ (λ (x : Option Number) (c : Number). over (minus_ends x (least_rest M i j)) c) (end_live (row_at p i).live u live) entry_is
      ∙ ap (λ (x : Option Number). over (minus_ends u x) a) (sym (rest-is p i j Least m.other s live m.known))
      ∙ m.bound

  lower_is : (b : Number) → implied Lower j a l u (spans_of p i) ≡ Some b → implied_lower M i j ≡ Some b
  lower_is b e = ap (λ c. if lt_ℚ zero_ℚ c then over (minus_ends (M.lower_side i) (greatest_rest M i j)) (M.coefficient i j) else over (minus_ends (M.upper_side i) (least_rest M i j)) (M.coefficient i j)) entry_is
      ∙ by (lt_ℚ zero_ℚ a) e
    where
      by : (t : Bool) → (if t then by_lower_side j a l (spans_of p i) else by_upper_side j a u (spans_of p i)) ≡ Some b
          → (if t then over (minus_ends (M.lower_side i) (greatest_rest M i j)) (M.coefficient i j) else over (minus_ends (M.upper_side i) (least_rest M i j)) (M.coefficient i j)) ≡ Some b
      by true f = from_lower b f
      by false f = from_upper b f

  upper_is : (b : Number) → implied Upper j a l u (spans_of p i) ≡ Some b → implied_upper M i j ≡ Some b
  upper_is b e = ap (λ c. if lt_ℚ zero_ℚ c then over (minus_ends (M.upper_side i) (least_rest M i j)) (M.coefficient i j) else over (minus_ends (M.lower_side i) (greatest_rest M i j)) (M.coefficient i j)) entry_is
      ∙ by (lt_ℚ zero_ℚ a) e
    where
      by : (t : Bool) → (if t then by_upper_side j a u (spans_of p i) else by_lower_side j a l (spans_of p i)) ≡ Some b
          → (if t then over (minus_ends (M.upper_side i) (least_rest M i j)) (M.coefficient i j) else over (minus_ends (M.lower_side i) (greatest_rest M i j)) (M.coefficient i j)) ≡ Some b
      by true f = from_upper b f
      by false f = from_lower b f

  low_shown : M.lower_bound j ≡ (bounds_at p j).lower
  low_shown = end_live (column_at p j).live (reach_low (bounds_at p j)) column_on ∙ low_solid (bounds_at p j) solid

  high_shown : M.upper_bound j ≡ (bounds_at p j).upper
  high_shown = end_live (column_at p j).live (reach_high (bounds_at p j)) column_on ∙ high_solid (bounds_at p j) solid

  named_on : All (λ k. is_on (lives p.matrix.columns) k ≡ true) (j ∷ ids_of (row_entries p i))
  named_on = All-cons (λ k. is_on (lives p.matrix.columns) k ≡ true) j (ids_of (row_entries p i))
      (All-head (λ k. is_on (lives p.matrix.columns) k ≡ true) j [] (one_on p.matrix.columns j column_on)) (ids_on p.matrix.columns (row_at p i).entries)

  -- the record with the bound o
  abbrev kept : Side → Option Number → Undo
  kept side o = undo.BoundTightening (record { row = i; column = j; side = side; bound = o; entries = row_entries p i })

  is_tighter_lower : IsMadeBetter Lower (bounds_at p j).lower (new_bound p i j Lower) → IsLowerBoundTightening M i j
  is_tighter_lower b = record {
    row = row_inside p i live;
    column = column_inside p j column_on;
    entry = entry;
    better = subst (LowBelow (M.lower_bound j)) (sym (lower_is b.bound b.made)) (subst (λ o. LowBelow o (Some b.bound)) (sym low_shown) (low_better (bounds_at p j).lower b.bound b.better));
  }

  lower_set : IsMadeBetter Lower (bounds_at p j).lower (new_bound p i j Lower) → programs_edited M (edits p i j Lower) ≡ lower_bound_tightened M i j
  lower_set b = ap₂ (with_bounds M j) (b.made ∙ sym (lower_is b.bound b.made)) (sym high_shown)

  lower_pairs : IsMadeBetter Lower (bounds_at p j).lower (new_bound p i j Lower) → ReducesPairs Min M (shown (committed p (edits p i j Lower))) (undone_pair (record_of p i j Lower))
  lower_pairs b = pairs_by_edits p (edits p i j Lower) (lower_bound_tightened M i j) (undone_pair (record_of p i j Lower)) s ((column_on, solid), tt) (lower_set b)
      (subst (λ o. ReducesPairs Min M (lower_bound_tightened M i j) (undone_pair (kept Lower o))) low_shown (tightened_lower_pair M i j (row_entries p i) (is_tighter_lower b) (row_dense p i live)))

  lower_rays : IsMadeBetter Lower (bounds_at p j).lower (new_bound p i j Lower) → StepsBack M (shown (committed p (edits p i j Lower))) (weighed_in (record_of p i j Lower) (shown (committed p (edits p i j Lower))))
  lower_rays b = rays_by_edits p (edits p i j Lower) (lower_bound_tightened M i j) (record_of p i j Lower) s ((column_on, solid), tt) (lower_set b)
      (ray.lower_bound_tightening false false M i j (row_entries p i) (record { row = row_inside p i live; column = column_inside p j column_on; entry = entry; number = b.bound; implied = lower_is b.bound b.made }) (row_dense p i live))

  is_tighter_upper : IsMadeBetter Upper (bounds_at p j).upper (new_bound p i j Upper) → IsUpperBoundTightening M i j
  is_tighter_upper b = record {
    row = row_inside p i live;
    column = column_inside p j column_on;
    entry = entry;
    better = subst (HighAbove (M.upper_bound j)) (sym (upper_is b.bound b.made)) (subst (λ o. HighAbove o (Some b.bound)) (sym high_shown) (high_better (bounds_at p j).upper b.bound b.better));
  }

  upper_set : IsMadeBetter Upper (bounds_at p j).upper (new_bound p i j Upper) → programs_edited M (edits p i j Upper) ≡ upper_bound_tightened M i j
  upper_set b = ap₂ (with_bounds M j) (sym low_shown) (b.made ∙ sym (upper_is b.bound b.made))

  upper_pairs : IsMadeBetter Upper (bounds_at p j).upper (new_bound p i j Upper) → ReducesPairs Min M (shown (committed p (edits p i j Upper))) (undone_pair (record_of p i j Upper))
  upper_pairs b = pairs_by_edits p (edits p i j Upper) (upper_bound_tightened M i j) (undone_pair (record_of p i j Upper)) s ((column_on, solid), tt) (upper_set b)
      (subst (λ o. ReducesPairs Min M (upper_bound_tightened M i j) (undone_pair (kept Upper o))) high_shown (tightened_upper_pair M i j (row_entries p i) (is_tighter_upper b) (row_dense p i live)))

  upper_rays : IsMadeBetter Upper (bounds_at p j).upper (new_bound p i j Upper) → StepsBack M (shown (committed p (edits p i j Upper))) (weighed_in (record_of p i j Upper) (shown (committed p (edits p i j Upper))))
  upper_rays b = rays_by_edits p (edits p i j Upper) (upper_bound_tightened M i j) (record_of p i j Upper) s ((column_on, solid), tt) (upper_set b)
      (ray.upper_bound_tightening false false M i j (row_entries p i) (record { row = row_inside p i live; column = column_inside p j column_on; entry = entry; number = b.bound; implied = upper_is b.bound b.made }) (row_dense p i live))

  owes_by : (side : Side) → is_better side (old_bound side (bounds_at p j).lower (bounds_at p j).upper) (new_bound p i j side) ≡ true → Owes p (edits p i j side) (record_of p i j side)
  owes_by Lower e = let b = better_is Lower (bounds_at p j).lower (new_bound p i j Lower) e in record {
    allowed = ((column_on, solid), tt);
    ordered = tt;
    reduces = by_edits p (edits p i j Lower) (lower_bound_tightened M i j) (λ x. x) zero_ℚ s ((column_on, solid), tt) (lower_set b) nothing (lower_bound_implied Min M i j (is_tighter_lower b));
    pairs = λ continuous. lower_pairs b;
    rays = λ continuous. lower_rays b;
    sided = λ numbers h. one_sided (SetBounds j (new_bound p i j Lower) (bounds_at p j).upper) tt;
    sound = (row_inside p i live, column_inside p j column_on, row_entries-ascend p i s, named);
    names = (one_on p.matrix.rows i live, named_on);
    deletes = refl;
  }
  owes_by Upper e = let b = better_is Upper (bounds_at p j).upper (new_bound p i j Upper) e in record {
    allowed = ((column_on, solid), tt);
    ordered = tt;
    reduces = by_edits p (edits p i j Upper) (upper_bound_tightened M i j) (λ x. x) zero_ℚ s ((column_on, solid), tt) (upper_set b) nothing (upper_bound_implied Min M i j (is_tighter_upper b));
    pairs = λ continuous. upper_pairs b;
    rays = λ continuous. upper_rays b;
    sided = λ numbers h. one_sided (SetBounds j (bounds_at p j).lower (new_bound p i j Upper)) tt;
    sound = (row_inside p i live, column_inside p j column_on, row_entries-ascend p i s, named);
    names = (one_on p.matrix.rows i live, named_on);
    deletes = refl;
  }

pub said_at : (p : Sparse) (i j : ℕ) (side : Side) → enabled p i j side ≡ true → Tightened p (row_entries p i) j side (sides_at p i).lower (sides_at p i).upper (spans_of p i)
said_at p i j side e =
    let l : Option Number = (sides_at p i).lower in
    let u : Option Number = (sides_at p i).upper in
    tightened p (row_entries p i) j side l u (spans_of p i)
    (and_parts (has_two (spans_of p i)) (is_tightened_at side j l u (spans_of p i) (entry_at j (spans_of p i))) (said (is_bound_tightening j side) p i e).holds).1

pub owes : (p : Sparse) (i j : ℕ) (side : Side) → IsSparse p → enabled p i j side ≡ true → Owes p (edits p i j side) (record_of p i j side)
owes p i j side s e = let t = said_at p i j side e in owes_by p i j s (said (is_bound_tightening j side) p i e).live t.named t.solid side t.better

pub improves : (p : Sparse) (i j : ℕ) (side : Side) → enabled p i j side ≡ true → Improves p i j side
improves p i j side e = let b = better_is side (old_bound side (bounds_at p j).lower (bounds_at p j).upper) (new_bound p i j side) (said_at p i j side e).better in (b.bound, b.made, b.better)

pub row_live : (p : Sparse) (i j : ℕ) (side : Side) → enabled p i j side ≡ true → (row_at p i).live ≡ true
row_live p i j side e = (said (is_bound_tightening j side) p i e).live

pub column_live : (p : Sparse) (i j : ℕ) (side : Side) → enabled p i j side ≡ true → (column_at p j).live ≡ true
column_live p i j side e = (and_parts (column_at p j).live (has j (row_at p i).entries) (sym (has-live_only p.matrix.columns j (row_at p i).entries) ∙ (said_at p i j side e).named)).0

-- ---- its edits are those of what was read, so where this is the same its edits are the same
abbrev bound_moved : Side → ℕ → Option Number → Option Number → Option Number → Edit
bound_moved Lower j l u b = SetBounds j b u
bound_moved Upper j l u b = SetBounds j l b

abbrev edits_at : Side → ℕ → Option Number → Option Number → List Span → Option Span → List Edit
edits_at side j l u ss None = []
edits_at side j l u ss (Some s) = bound_moved side j s.lower s.upper (implied side j s.value l u ss) ∷ []

abbrev edits_from : Side → ℕ → Option Number → Option Number → Option (List Span) → List Edit
edits_from side j l u None = []
edits_from side j l u (Some ss) = edits_at side j l u ss (entry_at j ss)

abbrev edits_of : Side → ℕ → List Contents → List Edit
edits_of side j (holding.Entries ts ∷ holding.Sides l u ∷ bounds) = edits_from side j l u (spans_from ts bounds)
edits_of side j other = []

row_edits : (side : Side) (j : ℕ) (on : Bool) (f : Part → Contents) (ts : List Term) (l u : Option Number) (ss : List Span) → on ≡ true → spans_from ts (map f (named_bounds ts)) ≡ Some ss
    → edits_of side j ((if on then holding.Entries ts else holding.Gone) ∷ (if on then holding.Sides l u else holding.Gone) ∷ map f (named_bounds (terms_in (if on then holding.Entries ts else holding.Gone)))) ≡ edits_at side j l u ss (entry_at j ss)
row_edits side j true f ts l u ss live r = ap (edits_from side j l u) r
row_edits side j false f ts l u ss live r = absurd (not_true live)

moved_is : (side : Side) (j : ℕ) (old : Bounds) (b : Option Number) → bound_moved side j old.lower old.upper b ≡ bound_set side j old b
moved_is Lower j old b = refl
moved_is Upper j old b = refl

entry_edits : (p : Sparse) (ts : List Term) (j : ℕ) (side : Side) (l u : Option Number) (ss : List Span) → is_tightened_at side j l u ss (entry_at j (map (span_of p) ts)) ≡ true
    → edits_at side j l u ss (entry_at j (map (span_of p) ts)) ≡ bound_set side j (bounds_at p j) (implied side j (dense ts j) l u ss) ∷ []
entry_edits p ts j side l u ss e = by (entry_at j (map (span_of p) ts)) refl e
  where
    by : (o : Option Span) → entry_at j (map (span_of p) ts) ≡ o → is_tightened_at side j l u ss o ≡ true → edits_at side j l u ss o ≡ bound_set side j (bounds_at p j) (implied side j (dense ts j) l u ss) ∷ []
    by None f h = absurd (not_true h)
    by (Some s) f h = ap (λ (x : Span). bound_moved side j x.lower x.upper (implied side j x.value l u ss) ∷ []) (found p j ts s f).span
        ∙ ap₂ (λ (x y : Option Number). bound_moved side j x y (implied side j (dense ts j) l u ss) ∷ []) (low_solid (bounds_at p j) (tightened p ts j side l u ss e).solid) (high_solid (bounds_at p j) (tightened p ts j side l u ss e).solid)
        ∙ ap (λ (x : Edit). x ∷ []) (moved_is side j (bounds_at p j) (implied side j (dense ts j) l u ss))

edits_told : (p : Sparse) (i j : ℕ) (side : Side) → enabled p i j side ≡ true → edits_of side j (row_found p i) ≡ edits p i j side
edits_told p i j side e =
    let l : Option Number = (sides_at p i).lower in
    let u : Option Number = (sides_at p i).upper in
    let ss : List Span = spans_of p i in
    let s = said (is_bound_tightening j side) p i e in
    row_edits side j (row_at p i).live (contents_of p) (row_entries p i) l u ss s.live (row_is_read p i)
    ∙ entry_edits p (row_entries p i) j side l u ss (and_parts (has_two ss) (is_tightened_at side j l u ss (entry_at j ss)) s.holds).1

pub edits_same : (p q : Sparse) (i j : ℕ) (side : Side) → enabled p i j side ≡ true → row_found q i ≡ row_found p i → edits q i j side ≡ edits p i j side
edits_same p q i j side e h =
    let there : enabled q i j side ≡ true = ap (holds j side) h ∙ e in
    sym (edits_told q i j side there) ∙ ap (edits_of side j) h ∙ edits_told p i j side e

-- ---- it reads the bounds that it changes
named_there : (f : Term → Part) (ts : List Term) (j : ℕ) → ((t : Term) → t.id ≡ j → f t ≡ part.Bounds j) → has j ts ≡ true → Contains (map f ts) (part.Bounds j)
named_there f [] j g h = absurd (not_true h)
named_there f (t ∷ ts) j g h = by (cases_eq t.id j) (named_there f ts j g)
  where
    by : (t.id ≡ j) ⊎ (t.id ≢ j) → (has j ts ≡ true → Contains (map f ts) (part.Bounds j)) → Contains (map f (t ∷ ts)) (part.Bounds j)
    by (inl e) rest = (0, omega arith, g t e)
    by (inr n) rest = let c = rest (sym (has-cons_other j t ts n) ∙ h) in (suc c.0, (let l = c.1 in omega (arith, l)), c.2)

row_reads : (on : Bool) (ts : List Term) (j : ℕ) → on ≡ true → has j ts ≡ true → Contains (named_bounds (terms_in (if on then holding.Entries ts else holding.Gone))) (part.Bounds j)
row_reads true ts j live h = named_there (λ t. part.Bounds t.id) ts j (λ t e. ap (λ (k : ℕ). part.Bounds k) e) h
row_reads false ts j live h = absurd (not_true live)

pub reads_bounds : (p : Sparse) (i j : ℕ) (side : Side) → enabled p i j side ≡ true → Contains (parts_on (heads i) bounds_named p) (part.Bounds j)
reads_bounds p i j side e = Contains-append_right (heads i) (bounds_named (map (contents_of p) (heads i))) (part.Bounds j)
    (row_reads (row_at p i).live (row_entries p i) j (row_live p i j side e) (said_at p i j side e).named)

-- ---- and the bounds hold something else when it is applied
bounds_after : (p : Sparse) (j : ℕ) (l u : Option Number) → j < length p.bounds → (s : Side) → old_bound s (bounds_at (committed p (SetBounds j l u ∷ [])) j).lower (bounds_at (committed p (SetBounds j l u ∷ [])) j).upper ≡ old_bound s l u
bounds_after p j l u h s =
    let q : Sparse = bounds_set p j l u in
    each_at-field (λ (b : Bounds). old_bound s b.lower b.upper) (numbered_bounds (λ k. changes_after p q (part.Bounds k))) no_bounds (λ k b. refl) 0 q.bounds j
    ∙ ap (λ (b : Bounds). old_bound s b.lower b.upper) (bounds_set-same p j l u h)

live_after : (p : Sparse) (j : ℕ) (l u : Option Number) → (column_at (committed p (SetBounds j l u ∷ [])) j).live ≡ (column_at p j).live
live_after p j l u = let q : Sparse = bounds_set p j l u in
    each_at-field (λ (c : Line). c.live) (numbered_line (λ k. changes_after p q (part.Col k))) no_line (λ k c. refl) 0 q.matrix.columns j

semi_after : (p : Sparse) (j : ℕ) (l u : Option Number) → j < length p.bounds → (bounds_at (committed p (SetBounds j l u ∷ [])) j).semi ≡ (bounds_at p j).semi
semi_after p j l u h =
    let q : Sparse = bounds_set p j l u in
    each_at-field (λ (b : Bounds). b.semi) (numbered_bounds (λ k. changes_after p q (part.Bounds k))) no_bounds (λ k b. refl) 0 q.bounds j
    ∙ ap (λ (b : Bounds). b.semi) (bounds_set-same p j l u h)

-- the bound that bounds hold
abbrev bound_in : Side → Contents → Option Number
bound_in s (holding.Bounds l u w) = old_bound s l u
bound_in s other = None

held : (q : Sparse) (j : ℕ) (s : Side) → (column_at q j).live ≡ true → (bounds_at q j).semi ≡ false → bound_in s (contents_of q (part.Bounds j)) ≡ old_bound s (bounds_at q j).lower (bounds_at q j).upper
held q j s live solid = ap₂ (λ (on semi : Bool). bound_in s (if on then bounds_held semi (bounds_at q j).lower (bounds_at q j).upper (bounds_at q j).whole else holding.Gone)) live solid

some_is : (a b : Number) → Some a ≡ Some b → a ≡ b
some_is a b e = cc

not_better : (side : Side) (old : Option Number) (b : Number) → IsBetter side old b → old ≡ Some b → ⊥
not_better Lower None b h e = cc
not_better Upper None b h e = cc
not_better Lower (Some a) b h e = <ℚ-irrefl b (subst (λ (x : Number). x <ℚ b) (some_is a b e) h)
not_better Upper (Some a) b h e = <ℚ-irrefl b (subst (λ (x : Number). b <ℚ x) (some_is a b e) h)

set_to : (side : Side) (p : Sparse) (j : ℕ) (b : Option Number) → IsSparse p → (column_at p j).live ≡ true → (bounds_at p j).semi ≡ false → contents_of (committed p (bound_set side j (bounds_at p j) b ∷ [])) (part.Bounds j) ≡ contents_of p (part.Bounds j)
    → old_bound side (bounds_at p j).lower (bounds_at p j).upper ≡ b
set_to Lower p j b s live solid h =
    sym (held p j Lower live solid) ∙ sym (ap (bound_in Lower) h)
    ∙ held (committed p (SetBounds j b (bounds_at p j).upper ∷ [])) j Lower (live_after p j b (bounds_at p j).upper ∙ live) (semi_after p j b (bounds_at p j).upper (bounds_inside p j s live) ∙ solid)
    ∙ bounds_after p j b (bounds_at p j).upper (bounds_inside p j s live) Lower
set_to Upper p j b s live solid h =
    sym (held p j Upper live solid) ∙ sym (ap (bound_in Upper) h)
    ∙ held (committed p (SetBounds j (bounds_at p j).lower b ∷ [])) j Upper (live_after p j (bounds_at p j).lower b ∙ live) (semi_after p j (bounds_at p j).lower b (bounds_inside p j s live) ∙ solid)
    ∙ bounds_after p j (bounds_at p j).lower b (bounds_inside p j s live) Upper

pub bounds_differ : (p : Sparse) (i j : ℕ) (side : Side) → IsSparse p → enabled p i j side ≡ true → contents_of (committed p (edits p i j side)) (part.Bounds j) ≢ contents_of p (part.Bounds j)
bounds_differ p i j side s e h =
    let b = improves p i j side e in
    not_better side (old_bound side (bounds_at p j).lower (bounds_at p j).upper) b.0 b.2 (set_to side p j (new_bound p i j side) s (column_live p i j side e) (said_at p i j side e).solid h ∙ b.1)
