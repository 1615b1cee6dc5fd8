-- K3.
use Rattle.std.proofs.Common.{◌≡◌, ◌⊎◌, inl, inr, ℕ, Bool, true, false, List, [], ◌∷◌, ◌++◌, get_or, Option, Some, None, unwrap_or, refl, sym, ap, ap₂, ◌∙◌, subst, pos}
use Rattle.std.specs.Prelude.{if◌then◌else◌}
use Rattle.std.specs.List.{All}
use Rattle.std.proofs.lemmas.Bool.{and_parts}
use Rattle.std.proofs.lemmas.List.Elements.{All-append}
use Rattle.fractions.specs.Number.{Number, rational, zero_ℚ, ◌+ℚ◌, ◌*ℚ◌}
use Rattle.fractions.specs.Ring.{ring, v, num, ◌:+◌, ◌:-◌, ◌:*◌}
use Rattle.fractions.specs.Ends.{less}
use Rattle.fractions.specs.declared.Numbers.{Numbers}
use Rattle.lp_model.specs.declared.program.Sense.TheVariants.{Min}
use Rattle.lp_model.specs.declared.terms.Term.{Term}
use Rattle.lp_model.specs.LinearProgram.{LinearProgram}
use Rattle.lp_model.specs.Optimality.{Continuous}
use Rattle.lp_model.specs.Reductions.{Reduces, ReducesPairs}
use Rattle.lp_model.specs.Sparse.{dense, has}
use Rattle.lp_model.specs.Edits.{without_column}
use Rattle.lp_columns.specs.FixedColumn.{IsFixedColumn, undo_fixed_column}
use Rattle.lp_columns.proofs.FixedColumn.{fixed_column}
use Rattle.undo_records.specs.declared.undo.Undo.{Undo}
use Rattle.undo_records.specs.declared.undo.Undo.TheVariants as undo
use Rattle.undo_pairs.specs.LiftPair.{undone_pair}
use Rattle.pair_laws.proofs.ColumnPairs.{fixed_column_pair}
use Rattle.problem_model.specs.declared.part.Contents.TheVariants as holding
use Rattle.problem_model.specs.Flags.{flags_of}
use Rattle.problem_model.specs.Matrices.{line_at}
use Rattle.problem_model.specs.Problems.{row_at, column_at, sides_at, bounds_at, cost_at, column_entries, IsSparse}
use Rattle.problem_model.specs.Showing.{coefficient_of, end_if, shown, reach_low, reach_high}
use Rattle.problem_model.specs.Sparse.{Sparse}
use Rattle.problem_model.specs.Writing.{KeptSides, IsWritable}
use Rattle.problem_model.specs.LeftOut.{column_left_out}
use Rattle.problem_laws.proofs.AtIds.{column_inside}
use Rattle.problem_laws.proofs.Terms.{dense-absent}
use Rattle.problem_laws.proofs.Entries.{column_entries-ascend, column_entries-live, column_entries-tell}
use Rattle.rule_words.proofs.Coefficients.{end_live, coefficient_in_column}
use Rattle.rule_words.proofs.EndTestsSay.{not_true, AreFixed, fixed_ends}
use Rattle.problem_model.specs.declared.edit.Edit.{Edit}
use Rattle.problem_model.specs.declared.edit.Edit.TheVariants.{AddOffset, DeleteColumn}
use Rattle.problem_model.specs.Allowed.{AreAllowed}
use Rattle.problem_model.specs.Raised.{committed}
use Rattle.lp_model.specs.Ends.{IsSided}
use Rattle.problem_model.specs.NewNumbers.{EditIsSided}
use Rattle.problem_model.specs.Offsets.{added_by}
use Rattle.problem_model.specs.EditedPrograms.{programs_edited}
use Rattle.edit_laws.proofs.Lists.{allowed_more, entries_first_none}
use Rattle.edit_laws.proofs.Sweeps.{sweep, programs_more, added_more, sweep_matrix, sweep_allowed, sweep_added, sweep_flags, sweep_no_entries, sweep_sided, sweep_only, sweep_lower, sweep_upper}
use Rattle.rule_words.specs.Owed.{RuleOwes}
use Rattle.singleton_laws.specs.FixedColumn.{is_fixed_column, enabled, value_of, column_out, edits, record_of}
use Rattle.edit_laws.proofs.Reducing.{by_edits, pairs_by_edits}
use Rattle.ray_step_laws.proofs.Records as ray
use Rattle.ray_step_laws.proofs.RaysBack.{rays_by_edits}
use Rattle.rule_words.specs.Ray.{StepsBack}
use Rattle.rule_words.specs.StepBack.{weighed_in}
use Rattle.rule_words.proofs.Named.{one_on, ids_on, two_sided}
use Rattle.problem_model.specs.Parts.{bounds_held}
use Rattle.rule_words.proofs.Solid.{low_solid, high_solid, gap_solid}

-- what the condition says: a live column whose bounds are v
pub record Said (on semi : Bool) (l u : Option Number) (w : Bool) (v : Number) : Type 0 where
  pub live : on ≡ true
  pub solid : semi ≡ false
  pub ends : AreFixed l u w v

says : (on semi : Bool) (ts : List Term) (c : Number) (l u : Option Number) (w : Bool)
    → is_fixed_column (if on then holding.Column ts c else holding.Gone) (if on then bounds_held semi l u w else holding.Gone) ≡ true → Said on semi l u w (unwrap_or l zero_ℚ)
says true true ts c l u w e = absurd (not_true e)
says true false ts c l u w e = record { live = refl; solid = refl; ends = fixed_ends l u w e }
says false semi ts c l u w e = absurd (not_true e)

pub said : (p : Sparse) (j : ℕ) → enabled p j ≡ true → Said (column_at p j).live (bounds_at p j).semi (bounds_at p j).lower (bounds_at p j).upper (bounds_at p j).whole (value_of p j)
said p j = says (column_at p j).live (bounds_at p j).semi (column_entries p j) (cost_at p j) (bounds_at p j).lower (bounds_at p j).upper (bounds_at p j).whole

less_zero : (o : Option Number) (w : Number) → less o (zero_ℚ *ℚ w) ≡ o
less_zero None w = refl
less_zero (Some b) w = ap Some (ring rational (b ∷ w ∷ []) (v 0 :- num (pos 0) :* v 1) (v 0) refl)

-- a finite side stays finite
sided_less : (numbers : Numbers) (l u : Option Number) (c : Number) → KeptSides numbers l u → IsSided (less l c) (less u c)
sided_less numbers None None c k = k
sided_less numbers None (Some u) c k = tt
sided_less numbers (Some l) u c k = tt

module _ (p : Sparse) (s : IsSparse p) (j : ℕ) (w : Number) (f : Said (column_at p j).live (bounds_at p j).semi (bounds_at p j).lower (bounds_at p j).upper (bounds_at p j).whole w) where
  abbrev ts : List Term
  ts = column_entries p j

  abbrev low : Term → Option Number
  low t = less (sides_at p t.id).lower (t.value *ℚ w)

  abbrev high : Term → Option Number
  high t = less (sides_at p t.id).upper (t.value *ℚ w)

  column_has : (i : ℕ) → dense ts i ≡ coefficient_of p i j
  column_has i = sym (coefficient_in_column p i j s.matrix ∙ ap (λ (on : Bool). if on then dense ts i else zero_ℚ) f.live)

  -- what a side comes to, by its row
  abbrev left : (ℕ → Option Number) → ℕ → Option Number
  left side i = less (end_if (row_at p i).live (side i)) (coefficient_of p i j *ℚ w)

  of_terms : (side : ℕ → Option Number) → All (λ t. less (side t.id) (t.value *ℚ w) ≡ left side t.id) ts
  of_terms side k d l = let t = get_or ts k d in
      ap₂ (λ (on : Bool) (a : Number). less (end_if on (side t.id)) (a *ℚ w)) (sym (column_entries-live p j k d l)) (sym (column_entries-tell p j s k d l) ∙ column_has t.id)

  named : (side : ℕ → Option Number) (i : ℕ) → (has i ts ≡ true) ⊎ (end_if (row_at p i).live (side i) ≡ left side i)
  named side i = by (has i ts) refl
    where
      by : (b : Bool) → has i ts ≡ b → (has i ts ≡ true) ⊎ (end_if (row_at p i).live (side i) ≡ left side i)
      by true h = inl h
      by false h = inr (sym (less_zero (end_if (row_at p i).live (side i)) w) ∙ ap (λ (a : Number). less (end_if (row_at p i).live (side i)) (a *ℚ w)) (sym (dense-absent i ts h) ∙ column_has i))

  abbrev all : List Edit
  all = sweep low high ts ++ column_out j (cost_at p j *ℚ w)

  -- what is shown then
  shows : programs_edited (shown p) all ≡ without_column (shown p) j w
  shows = programs_more (sweep low high ts) (column_out j (cost_at p j *ℚ w)) (shown p)
      ∙ ap (λ (M : LinearProgram). column_left_out M j) (sweep_only low high ts (shown p))
      ∙ (λ t. record (without_column (shown p) j w) {
        lower_side = λ i. sweep_lower low high (left (λ i. (sides_at p i).lower)) ts (shown p) (of_terms (λ i. (sides_at p i).lower)) i (named (λ i. (sides_at p i).lower) i) t;
        upper_side = λ i. sweep_upper low high (left (λ i. (sides_at p i).upper)) ts (shown p) (of_terms (λ i. (sides_at p i).upper)) i (named (λ i. (sides_at p i).upper) i) t;
      })

  allowed : AreAllowed p all
  allowed = allowed_more p (sweep low high ts) (column_out j (cost_at p j *ℚ w)) (sweep_allowed low high ts p (column_entries-live p j))
      (tt, (ap (λ g. (line_at g.columns j).live) (sweep_matrix low high ts p) ∙ f.live, tt))

  adds : added_by all ≡ cost_at p j *ℚ w
  adds = added_more (sweep low high ts) (column_out j (cost_at p j *ℚ w)) ∙ ap (λ k. k +ℚ added_by (column_out j (cost_at p j *ℚ w))) (sweep_added low high ts)
      ∙ ring rational ((cost_at p j *ℚ w) ∷ []) (num (pos 0) :+ (v 0 :+ (num (pos 0) :+ num (pos 0)))) (v 0) refl

  shows_fixed_column : IsFixedColumn (shown p) j w
  shows_fixed_column = record {
    column = column_inside p j f.live;
    lower = end_live (column_at p j).live (reach_low (bounds_at p j)) f.live ∙ low_solid (bounds_at p j) f.solid ∙ f.ends.lower;
    upper = end_live (column_at p j).live (reach_high (bounds_at p j)) f.live ∙ high_solid (bounds_at p j) f.solid ∙ f.ends.upper;
    solid = gap_solid (column_at p j).live (bounds_at p j) f.solid;
    whole = λ h. f.ends.whole (and_parts (column_at p j).live (bounds_at p j).whole h).1;
  }

  cost_live : (shown p).costs j ≡ cost_at p j
  cost_live = ap (λ (on : Bool). if on then cost_at p j else zero_ℚ) f.live

  reduces : Reduces Min (shown p) (shown (committed p all)) (undo_fixed_column j w) (added_by all)
  reduces = by_edits p all (without_column (shown p) j w) (undo_fixed_column j w) (cost_at p j *ℚ w) s allowed shows (sym adds)
      (subst (λ (c : Number). Reduces Min (shown p) (without_column (shown p) j w) (undo_fixed_column j w) (c *ℚ w)) cost_live
      (fixed_column (shown p) j w shows_fixed_column Min))

  -- the record with the cost c
  abbrev kept : Number → Undo
  kept c = undo.FixedColumn (record { column = j; value = w; cost = c; entries = ts })

  pairs : Continuous (shown p) → ReducesPairs Min (shown p) (shown (committed p all)) (undone_pair (kept (cost_at p j)))
  pairs continuous = pairs_by_edits p all (without_column (shown p) j w) (undone_pair (kept (cost_at p j))) s allowed shows
      (subst (λ (c : Number). ReducesPairs Min (shown p) (without_column (shown p) j w) (undone_pair (kept c))) cost_live
      (fixed_column_pair (shown p) j w ts continuous shows_fixed_column (column_entries-ascend p j s) (λ t i. column_has i t)))

  rays : StepsBack (shown p) (shown (committed p all)) (weighed_in (kept (cost_at p j)) (shown (committed p all)))
  rays = rays_by_edits p all (without_column (shown p) j w) (kept (cost_at p j)) s allowed shows
      (ray.fixed_column false false (shown p) j w ts shows_fixed_column (column_entries-ascend p j s) (λ t i. column_has i t))

  sided : (numbers : Numbers) → IsWritable numbers p → All EditIsSided all
  sided numbers h = All-append EditIsSided (sweep low high ts) (column_out j (cost_at p j *ℚ w))
      (sweep_sided low high ts (λ k d l. let t = get_or ts k d in sided_less numbers (sides_at p t.id).lower (sides_at p t.id).upper (t.value *ℚ w) (h.rows t.id (column_entries-live p j k d l))))
      (two_sided (AddOffset (cost_at p j *ℚ w)) (DeleteColumn j) tt tt)

pub owes : RuleOwes enabled edits record_of
owes p j s e = let f = said p j e in let w = value_of p j in record {
  allowed = allowed p s j w f;
  ordered = entries_first_none (edits p j) (sweep_no_entries (low p s j w f) (high p s j w f) (column_entries p j) (column_out j (cost_at p j *ℚ w)) tt);
  reduces = reduces p s j w f;
  pairs = pairs p s j w f;
  rays = λ continuous. rays p s j w f;
  sided = sided p s j w f;
  sound = (column_inside p j f.live, column_entries-ascend p j s);
  names = (ids_on p.matrix.rows (column_at p j).entries, one_on p.matrix.columns j f.live);
  deletes = sweep_flags (low p s j w f) (high p s j w f) (column_entries p j) (flags_of p) (column_out j (cost_at p j *ℚ w));
}
