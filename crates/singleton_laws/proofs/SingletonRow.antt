-- K2.
use Rattle.std.proofs.Common.{◌≡◌, ℕ, Bool, true, false, List, [], ◌∷◌, ◌&&◌, length, map, Option, refl, sym, ap, ap₂, ◌∙◌, subst}
use Rattle.std.specs.Prelude.{if◌then◌else◌}
use Rattle.std.specs.List.{All}
use Rattle.std.proofs.lemmas.List.Elements.{All-head}
use Rattle.fractions.specs.Number.{Number, zero_ℚ}
use Rattle.fractions.specs.Ends.{meet_low, meet_high}
use Rattle.fractions.specs.Total.{put}
use Rattle.fractions.proofs.Totals.{put-same, put-other}
use Rattle.lp_model.specs.declared.program.Sense.TheVariants.{Min}
use Rattle.lp_model.specs.declared.terms.Term.{Term}
use Rattle.lp_model.specs.Reductions.{ReducesPairs}
use Rattle.lp_model.specs.Sparse.{Ascends, dense}
use Rattle.lp_model.specs.Edits.{without_row, with_bounds}
use Rattle.lp_theory.specs.MetEnds.{lower_over, upper_over}
use Rattle.lp_rows.specs.SingletonRow.{IsSingletonRow, singleton_row_met}
use Rattle.lp_rows.specs.SingletonRow as rule
use Rattle.lp_rows.proofs.SingletonRow.{singleton_row}
use Rattle.undo_records.specs.declared.undo.Undo.{Undo}
use Rattle.undo_records.specs.declared.undo.Undo.TheVariants as undo
use Rattle.undo_pairs.specs.LiftPair.{undone_pair}
use Rattle.pair_laws.specs.Records as kept
use Rattle.pair_laws.proofs.RowPairs.{singleton_row_pair}
use Rattle.problem_model.specs.declared.edit.Edit.TheVariants.{SetBounds, DeleteRow}
use Rattle.problem_model.specs.declared.part.Contents.TheVariants as holding
use Rattle.problem_model.specs.Allowed.{AreAllowed}
use Rattle.problem_model.specs.EditedPrograms.{programs_edited}
use Rattle.problem_model.specs.Raised.{committed}
use Rattle.problem_model.specs.Problems.{first_of, row_at, column_at, sides_at, bounds_at, row_entries, IsSparse}
use Rattle.problem_model.specs.Showing.{coefficient_of, end_if, shown}
use Rattle.problem_model.specs.Sparse.{Sparse}
use Rattle.problem_laws.proofs.AtIds.{row_inside}
use Rattle.problem_laws.proofs.Entries.{row_entries-ascend, row_entries-live}
use Rattle.rule_words.specs.Owed.{RuleOwes}
use Rattle.rule_words.proofs.Coefficients.{coefficient_in_row}
use Rattle.rule_words.proofs.EndTestsSay.{not_true}
use Rattle.rule_words.proofs.Named.{one_on, nothing_twice, two_sided}
use Rattle.edit_laws.proofs.Reducing.{by_edits, pairs_by_edits}
use Rattle.ray_step_laws.proofs.Records as ray
use Rattle.ray_step_laws.proofs.RaysBack.{rays_by_edits}
use Rattle.rule_words.specs.Ray.{StepsBack}
use Rattle.rule_words.specs.StepBack.{weighed_in}
use Rattle.singleton_laws.specs.SingletonRow.{are_open, is_singleton_row, enabled, sole_entry, met_lower, met_upper, edits, record_of}
use Rattle.problem_model.specs.Parts.{bounds_held, contents_of}
use Rattle.lp_model.specs.EndTests.{is_in_order}
use Rattle.rule_words.specs.Reading.{bounds_of, terms_in}
use Rattle.rule_words.proofs.Solid.{low_shown, high_shown}

-- what the condition says: a live row with one live entry, whose column isn't semi-continuous
pub record Said (p : Sparse) (on : Bool) (ts : List Term) : Type 0 where
  pub live : on ≡ true
  pub one : ts ≡ first_of ts ∷ []
  pub solid : (bounds_at p (first_of ts).id).semi ≡ false

opens : (on semi : Bool) (m v : Option Number) (w ordered : Bool) → (ordered && are_open ((if on then bounds_held semi m v w else holding.Gone) ∷ [])) ≡ true → semi ≡ false
opens on false m v w ordered e = refl
opens true true m v w true e = absurd (not_true e)
opens true true m v w false e = absurd (not_true e)
opens false true m v w true e = absurd (not_true e)
opens false true m v w false e = absurd (not_true e)

says : (p : Sparse) (on : Bool) (ts : List Term) (l u : Option Number)
    → is_singleton_row (if on then holding.Entries ts else holding.Gone) (if on then holding.Sides l u else holding.Gone) (map (contents_of p) (bounds_of (terms_in (if on then holding.Entries ts else holding.Gone)))) ≡ true → Said p on ts
says p true [] l u e = absurd (not_true e)
says p true (t ∷ []) l u e = record { live = refl; one = refl; solid = opens (column_at p t.id).live (bounds_at p t.id).semi (bounds_at p t.id).lower (bounds_at p t.id).upper (bounds_at p t.id).whole (is_in_order l u) e }
says p true (t ∷ s ∷ ts) l u e = absurd (not_true e)
says p false ts l u e = absurd (not_true e)

pub said : (p : Sparse) (i : ℕ) → enabled p i ≡ true → Said p (row_at p i).live (row_entries p i)
said p i = says p (row_at p i).live (row_entries p i) (sides_at p i).lower (sides_at p i).upper

-- the entry: its column is live, its id is the problem's, and it isn't 0
sole_live : (p : Sparse) (i : ℕ) → Said p (row_at p i).live (row_entries p i) → (column_at p (sole_entry p i).id).live ≡ true
sole_live p i o = All-head (λ (t : Term). (column_at p t.id).live ≡ true) (sole_entry p i) []
    (subst (All (λ (t : Term). (column_at p t.id).live ≡ true)) o.one (row_entries-live p i))

sole_ascends : (p : Sparse) (i : ℕ) → IsSparse p → Said p (row_at p i).live (row_entries p i) → Ascends 0 (length p.matrix.columns) (sole_entry p i ∷ [])
sole_ascends p i s o = subst (Ascends 0 (length p.matrix.columns)) o.one (row_entries-ascend p i s)

module _ (p : Sparse) (s : IsSparse p) (i : ℕ) (o : Said p (row_at p i).live (row_entries p i)) where
  abbrev j : ℕ
  j = (sole_entry p i).id

  abbrev a : Number
  a = (sole_entry p i).value

  row_has : (k : ℕ) → coefficient_of p i k ≡ put (λ k. zero_ℚ) j a k
  row_has k = coefficient_in_row p i k ∙ ap (λ (on : Bool). if on then dense (row_entries p i) k else zero_ℚ) o.live ∙ ap (λ (ts : List Term). dense ts k) o.one

  entry_is : coefficient_of p i j ≡ a
  entry_is = row_has j ∙ put-same (λ k. zero_ℚ) j a

  shows : IsSingletonRow (shown p) i j
  shows = let e : Ascends 0 (length p.matrix.columns) (sole_entry p i ∷ []) = sole_ascends p i s o in record {
    row = row_inside p i o.live;
    column = e.1;
    entry = λ z. e.2 (sym entry_is ∙ z);
    only = λ k l n. row_has k ∙ put-other (λ k. zero_ℚ) j a k n;
  }

  low_is : met_lower p i (sole_entry p i) ≡ rule.met_lower (shown p) i j
  low_is t = meet_low (sym (low_shown p j (sole_live p i o) o.solid) t)
      (lower_over (sym entry_is t) (end_if (sym o.live t) (sides_at p i).lower) (end_if (sym o.live t) (sides_at p i).upper))

  high_is : met_upper p i (sole_entry p i) ≡ rule.met_upper (shown p) i j
  high_is t = meet_high (sym (high_shown p j (sole_live p i o) o.solid) t)
      (upper_over (sym entry_is t) (end_if (sym o.live t) (sides_at p i).lower) (end_if (sym o.live t) (sides_at p i).upper))

  met : programs_edited (shown p) (edits p i) ≡ singleton_row_met (shown p) i j
  met = ap₂ (λ (x y : Option Number). without_row (with_bounds (shown p) j x y) i) low_is high_is

  allowed : AreAllowed p (edits p i)
  allowed = ((sole_live p i o, o.solid), (o.live, tt))

  -- the program's numbers in the record
  same_record : kept.singleton_row (shown p) i j ≡ record_of p i
  same_record t = undo.SingletonRow (record {
    row = i;
    column = j;
    value = entry_is t;
    lower = low_shown p j (sole_live p i o) o.solid t;
    upper = high_shown p j (sole_live p i o) o.solid t;
  })

  pairs : ReducesPairs Min (shown p) (shown (committed p (edits p i))) (undone_pair (record_of p i))
  pairs = pairs_by_edits p (edits p i) (singleton_row_met (shown p) i j) (undone_pair (record_of p i)) s allowed met
      (subst (λ (u : Undo). ReducesPairs Min (shown p) (singleton_row_met (shown p) i j) (undone_pair u)) same_record (singleton_row_pair (shown p) i j shows))

  rays : StepsBack (shown p) (shown (committed p (edits p i))) (weighed_in (record_of p i) (shown (committed p (edits p i))))
  rays = rays_by_edits p (edits p i) (singleton_row_met (shown p) i j) (record_of p i) s allowed met
      (subst (λ (u : Undo). StepsBack (shown p) (singleton_row_met (shown p) i j) (weighed_in u (singleton_row_met (shown p) i j))) same_record (ray.singleton_row (shown p) i j shows))

pub owes : RuleOwes enabled edits record_of
owes p i s e = let o = said p i e in let t : Term = sole_entry p i in let a = sole_ascends p i s o in record {
  allowed = allowed p s i o;
  ordered = tt;
  reduces = by_edits p (edits p i) (singleton_row_met (shown p) i t.id) (λ x. x) zero_ℚ s (allowed p s i o) (met p s i o) nothing_twice (singleton_row (shown p) i t.id (shows p s i o) Min);
  pairs = λ continuous. pairs p s i o;
  rays = λ continuous. rays p s i o;
  sided = λ numbers w. two_sided (SetBounds t.id (met_lower p i t) (met_upper p i t)) (DeleteRow i) tt tt;
  sound = (row_inside p i o.live, a.1, a.2);
  names = (one_on p.matrix.rows i o.live, one_on p.matrix.columns t.id (sole_live p i o));
  deletes = refl;
}
