-- K17.
use Rattle.std.proofs.Common.{◌≡◌, ℕ, Bool, true, false, List, [], ◌∷◌, Option, Some, unwrap_or, refl, sym, ap, ◌∙◌}
use Rattle.std.specs.Prelude.{if◌then◌else◌}
use Rattle.std.proofs.lemmas.Bool.{and_parts}
use Rattle.fractions.specs.Number.{Number, zero_ℚ}
use Rattle.lp_model.specs.declared.terms.Term.{Term}
use Rattle.lp_model.specs.Sparse.{dense}
use Rattle.lp_model.specs.Edits.{with_bounds}
use Rattle.lp_columns.specs.EmptyColumn.{IsEmptyColumn, resting_place}
use Rattle.lp_columns.proofs.EmptyColumn.{empty_column}
use Rattle.undo_pairs.specs.LiftPair.{undone_pair}
use Rattle.pair_laws.proofs.ColumnPairs.{empty_column_pair}
use Rattle.problem_model.specs.declared.edit.Edit.TheVariants.{SetBounds}
use Rattle.problem_model.specs.declared.part.Contents.TheVariants as holding
use Rattle.lp_model.specs.EndTests.{is_apart, is_place}
use Rattle.problem_model.specs.Problems.{column_at, bounds_at, cost_at, column_entries, IsSparse}
use Rattle.problem_model.specs.Showing.{shown}
use Rattle.problem_model.specs.Sparse.{Sparse}
use Rattle.problem_laws.proofs.AtIds.{column_inside}
use Rattle.rule_words.specs.Owed.{RuleOwes}
use Rattle.rule_words.proofs.Coefficients.{zero_either, coefficient_in_column}
use Rattle.rule_words.proofs.EndTestsSay.{not_true, apart_ends, Finite, finite_end}
use Rattle.rule_words.proofs.Named.{one_on, none_on, one_sided, nothing}
use Rattle.edit_laws.proofs.Reducing.{by_edits, pairs_by_edits}
use Rattle.ray_step_laws.proofs.Records as ray
use Rattle.ray_step_laws.proofs.RaysBack.{rays_by_edits}
use Rattle.singleton_laws.specs.EmptyColumn.{is_empty_column, enabled, place_of, edits, record_of}
use Rattle.problem_model.specs.Parts.{bounds_held}
use Rattle.rule_words.proofs.Solid.{gap_solid, low_shown, high_shown}

-- what the condition says: a live column without live entries, which costs least at the place o, the finite v
pub record Said (on semi : Bool) (ts : List Term) (l u o : Option Number) (w : Bool) (v : Number) : Type 0 where
  pub live : on ≡ true
  pub solid : semi ≡ false
  pub none : ts ≡ []
  pub apart : is_apart l u ≡ true
  pub place : Finite o w v

says : (on semi : Bool) (ts : List Term) (c : Number) (l u : Option Number) (w : Bool)
    → is_empty_column (if on then holding.Column ts c else holding.Gone) (if on then bounds_held semi l u w else holding.Gone) ≡ true
    → Said on semi ts l u (resting_place c l u) w (unwrap_or (resting_place c l u) zero_ℚ)
says true true [] c l u w e = absurd (not_true e)
says true true (t ∷ ts) c l u w e = absurd (not_true e)
says true false [] c l u w e = let b = and_parts (is_apart l u) (is_place (resting_place c l u) w) e in
    record { live = refl; solid = refl; none = refl; apart = b.0; place = finite_end (resting_place c l u) w b.1 }
says true false (t ∷ ts) c l u w e = absurd (not_true e)
says false semi ts c l u w e = absurd (not_true e)

abbrev SaidAt : Sparse → ℕ → Type 0
SaidAt p j = Said (column_at p j).live (bounds_at p j).semi (column_entries p j) (bounds_at p j).lower (bounds_at p j).upper (place_of p j) (bounds_at p j).whole (unwrap_or (place_of p j) zero_ℚ)

pub said : (p : Sparse) (j : ℕ) → enabled p j ≡ true → SaidAt p j
said p j = says (column_at p j).live (bounds_at p j).semi (column_entries p j) (cost_at p j) (bounds_at p j).lower (bounds_at p j).upper (bounds_at p j).whole

shows : (p : Sparse) (j : ℕ) → IsSparse p → SaidAt p j → IsEmptyColumn (shown p) j (unwrap_or (place_of p j) zero_ℚ)
shows p j s r = record {
  column = column_inside p j r.live;
  empty = λ i l. coefficient_in_column p i j s.matrix ∙ ap (λ (ts : List Term). if (column_at p j).live then dense ts i else zero_ℚ) r.none ∙ zero_either (column_at p j).live;
  apart = λ l u e g. apart_ends (bounds_at p j).lower (bounds_at p j).upper r.apart l u
      (sym (low_shown p j r.live r.solid) ∙ e) (sym (high_shown p j r.live r.solid) ∙ g);
  solid = gap_solid (column_at p j).live (bounds_at p j) r.solid;
  place = (λ t. resting_place (if r.live t then cost_at p j else zero_ℚ) (low_shown p j r.live r.solid t) (high_shown p j r.live r.solid t)) ∙ r.place.value;
  whole = λ h. r.place.whole (and_parts (column_at p j).live (bounds_at p j).whole h).1;
}

pub owes : RuleOwes enabled edits record_of
owes p j s e = let r = said p j e in let v : Number = unwrap_or (place_of p j) zero_ℚ in record {
  allowed = ((r.live, r.solid), tt);
  ordered = tt;
  reduces = by_edits p (edits p j) (with_bounds (shown p) j (Some v) (Some v)) (λ x. x) zero_ℚ s ((r.live, r.solid), tt)
      (ap (λ (o : Option Number). with_bounds (shown p) j o o) r.place.value) nothing (empty_column (shown p) j v (shows p j s r));
  pairs = λ continuous. pairs_by_edits p (edits p j) (with_bounds (shown p) j (Some v) (Some v)) (undone_pair (record_of p j)) s ((r.live, r.solid), tt)
      (ap (λ (o : Option Number). with_bounds (shown p) j o o) r.place.value) (empty_column_pair (shown p) j v (shows p j s r));
  rays = λ continuous. rays_by_edits p (edits p j) (with_bounds (shown p) j (Some v) (Some v)) (record_of p j) s ((r.live, r.solid), tt)
      (ap (λ (o : Option Number). with_bounds (shown p) j o o) r.place.value) (ray.empty_column false false (shown p) j v (shows p j s r));
  sided = λ numbers w. one_sided (SetBounds j (place_of p j) (place_of p j)) tt;
  sound = column_inside p j r.live;
  names = (none_on p.matrix.rows, one_on p.matrix.columns j r.live);
  deletes = refl;
}
