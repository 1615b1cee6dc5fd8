-- K10.
use Rattle.std.proofs.Common.{◌≡◌, ◌⊎◌, inl, inr, ℕ, Bool, true, false, not, ◌&&◌, ◌||◌, List, map, Option, Some, unwrap_or, refl, sym, ap, ◌∙◌, subst}
use Rattle.std.specs.Prelude.{if◌then◌else◌}
use Rattle.std.proofs.lemmas.Bool.{and_parts}
use Rattle.fractions.specs.Number.{Number, zero_ℚ}
use Rattle.fractions.specs.Order.{◌≤ℚ◌, ◌<ℚ◌, ≤ℚ_cases}
use Rattle.fractions.specs.Compare.{lt_ℚ}
use Rattle.fractions.specs.Comparisons.{lt_ℚ-is}
use Rattle.lp_model.specs.declared.terms.Term.{Term}
use Rattle.lp_model.specs.Edits.{with_bounds}
use Rattle.lp_model.specs.EndTests.{is_apart, is_place}
use Rattle.lp_columns.specs.DualFixing.{GoesDown, GoesUp, IsDualFixing}
use Rattle.lp_columns.proofs.DualFixing.{dual_fixing}
use Rattle.pair_laws.specs.LiftPair.{undone_pair}
use Rattle.pair_laws.proofs.ColumnPairs.{cost_pair}
use Rattle.problem_model.specs.declared.edit.Edit.TheVariants.{SetBounds}
use Rattle.problem_model.specs.declared.part.Contents.{Contents}
use Rattle.problem_model.specs.declared.part.Contents.TheVariants as holding
use Rattle.problem_model.specs.declared.part.Part.{Part}
use Rattle.problem_model.specs.Parts.{contents_of, bounds_held}
use Rattle.problem_model.specs.Problems.{column_at, bounds_at, cost_at, column_entries, IsSparse}
use Rattle.problem_model.specs.Showing.{shown}
use Rattle.problem_model.specs.Sparse.{Sparse}
use Rattle.problem_laws.proofs.AtIds.{column_inside}
use Rattle.rule_words.specs.Owed.{RuleOwes}
use Rattle.rule_words.specs.Reading.{sides_of, terms_in}
use Rattle.rule_words.proofs.Coefficients.{end_live}
use Rattle.rule_words.proofs.EndTestsSay.{not_true, apart_ends, Finite, finite_end}
use Rattle.rule_words.proofs.Named.{one_on, none_on, one_sided, nothing}
use Rattle.edit_laws.proofs.Reducing.{by_edits, pairs_by_edits}
use Rattle.ray_step_laws.proofs.Records as ray
use Rattle.ray_step_laws.proofs.RaysBack.{rays_by_edits}
use Rattle.dual_laws.specs.DualFixing.{goes_down, goes_up, is_dual_fixing, enabled, end_kept, place_of, edits, record_of}
use Rattle.dual_laws.specs.Locks.{all_take, are_uncrossed, sides_on, takes_down, takes_up}
use Rattle.dual_laws.proofs.Locks.{cost_live, no_down_lock, no_up_lock}
use Rattle.rule_words.proofs.Solid.{gap_solid, low_shown, high_shown}

-- a number that is not below another is above it, or the same
not_less : (p q : Number) → not (lt_ℚ q p) ≡ true → p ≤ℚ q
not_less p q e = by (≤ℚ_cases p q)
  where
    by : (p ≤ℚ q) ⊎ (q <ℚ p) → p ≤ℚ q
    by (inl h) = h
    by (inr h) = absurd (not_true (sym (ap not ((lt_ℚ-is q p).1 h)) ∙ e))

-- what it says that a column goes down to v, and that it goes up to v
pub record Down (ts : List Term) (c : Number) (l : Option Number) (w : Bool) (sides : List Contents) (v : Number) : Type 0 where
  pub place : Finite l w v
  pub cost : zero_ℚ ≤ℚ c
  pub rows : all_take takes_down ts sides ≡ true

pub record Up (ts : List Term) (c : Number) (u : Option Number) (w : Bool) (sides : List Contents) (v : Number) : Type 0 where
  pub place : Finite u w v
  pub cost : c ≤ℚ zero_ℚ
  pub rows : all_take takes_up ts sides ≡ true

-- what the condition says: a live column with bounds apart that goes down to v, or up to v
pub record Said (on semi : Bool) (ts : List Term) (c : Number) (l u : Option Number) (w : Bool) (sides : List Contents) (v : Number) : Type 0 where
  pub live : on ≡ true
  pub solid : semi ≡ false
  pub apart : is_apart l u ≡ true
  pub place : end_kept ts c l u w sides ≡ Some v
  pub goes : Down ts c l w sides v ⊎ Up ts c u w sides v

module _ (ts : List Term) (c : Number) (l u : Option Number) (w : Bool) (sides : List Contents) where
  down_said : goes_down ts c l w sides ≡ true → Down ts c l w sides (unwrap_or l zero_ℚ)
  down_said e =
      let a = and_parts (is_place l w) (not (lt_ℚ c zero_ℚ) && all_take takes_down ts sides) e in
      let b = and_parts (not (lt_ℚ c zero_ℚ)) (all_take takes_down ts sides) a.1 in
      record { place = finite_end l w a.0; cost = not_less zero_ℚ c b.0; rows = b.1 }

  up_said : goes_up ts c u w sides ≡ true → Up ts c u w sides (unwrap_or u zero_ℚ)
  up_said e =
      let a = and_parts (is_place u w) (not (lt_ℚ zero_ℚ c) && all_take takes_up ts sides) e in
      let b = and_parts (not (lt_ℚ zero_ℚ c)) (all_take takes_up ts sides) a.1 in
      record { place = finite_end u w a.0; cost = not_less c zero_ℚ b.0; rows = b.1 }

  abbrev Goes : Option Number → Type 0
  Goes o = (o ≡ Some (unwrap_or o zero_ℚ)) × (Down ts c l w sides (unwrap_or o zero_ℚ) ⊎ Up ts c u w sides (unwrap_or o zero_ℚ))

  goes_said : (d : Bool) → goes_down ts c l w sides ≡ d → (d || goes_up ts c u w sides) ≡ true → Goes (if d then l else u)
  goes_said true e h = let x = down_said e in (x.place.value, inl x)
  goes_said false e h = let x = up_said h in (x.place.value, inr x)

says : (on semi : Bool) (f : Part → Contents) (ts : List Term) (c : Number) (l u : Option Number) (w : Bool)
    → is_dual_fixing (if on then holding.Column ts c else holding.Gone) (if on then bounds_held semi l u w else holding.Gone) (map f (sides_of (terms_in (if on then holding.Column ts c else holding.Gone)))) ≡ true
    → Said on semi ts c l u w (map f (sides_of ts)) (unwrap_or (end_kept ts c l u w (map f (sides_of ts))) zero_ℚ)
says true true f ts c l u w e = absurd (not_true e)
says true false f ts c l u w e =
    let sides : List Contents = map f (sides_of ts) in
    let a = and_parts (is_apart l u) (are_uncrossed sides && (goes_down ts c l w sides || goes_up ts c u w sides)) e in
    let b = and_parts (are_uncrossed sides) (goes_down ts c l w sides || goes_up ts c u w sides) a.1 in
    let g = goes_said ts c l u w sides (goes_down ts c l w sides) refl b.1 in
    record { live = refl; solid = refl; apart = a.0; place = g.0; goes = g.1 }
says false semi f ts c l u w e = absurd (not_true e)

abbrev SaidAt : Sparse → ℕ → Type 0
SaidAt p j = Said (column_at p j).live (bounds_at p j).semi (column_entries p j) (cost_at p j) (bounds_at p j).lower (bounds_at p j).upper (bounds_at p j).whole (sides_on p j) (unwrap_or (place_of p j) zero_ℚ)

pub said : (p : Sparse) (j : ℕ) → enabled p j ≡ true → SaidAt p j
said p j = says (column_at p j).live (bounds_at p j).semi (contents_of p) (column_entries p j) (cost_at p j) (bounds_at p j).lower (bounds_at p j).upper (bounds_at p j).whole

module _ (p : Sparse) (j : ℕ) (s : IsSparse p) (r : SaidAt p j) where
  abbrev v : Number
  v = unwrap_or (place_of p j) zero_ℚ

  goes_shown : Down (column_entries p j) (cost_at p j) (bounds_at p j).lower (bounds_at p j).whole (sides_on p j) v ⊎ Up (column_entries p j) (cost_at p j) (bounds_at p j).upper (bounds_at p j).whole (sides_on p j) v
      → GoesDown (shown p) j v ⊎ GoesUp (shown p) j v
  goes_shown (inl d) = inl (record {
    lower = low_shown p j r.live r.solid ∙ d.place.value;
    whole = λ h. d.place.whole (and_parts (column_at p j).live (bounds_at p j).whole h).1;
    cost = subst (λ (c : Number). zero_ℚ ≤ℚ c) (sym (cost_live (column_at p j).live (cost_at p j) r.live)) d.cost;
    rows = no_down_lock p j s r.live d.rows;
  })
  goes_shown (inr d) = inr (record {
    upper = high_shown p j r.live r.solid ∙ d.place.value;
    whole = λ h. d.place.whole (and_parts (column_at p j).live (bounds_at p j).whole h).1;
    cost = subst (λ (c : Number). c ≤ℚ zero_ℚ) (sym (cost_live (column_at p j).live (cost_at p j) r.live)) d.cost;
    rows = no_up_lock p j s r.live d.rows;
  })

  shows : IsDualFixing (shown p) j v
  shows = record {
    column = column_inside p j r.live;
    apart = λ l u e g. apart_ends (bounds_at p j).lower (bounds_at p j).upper r.apart l u
        (sym (low_shown p j r.live r.solid) ∙ e) (sym (high_shown p j r.live r.solid) ∙ g);
    solid = gap_solid (column_at p j).live (bounds_at p j) r.solid;
    goes = goes_shown r.goes;
  }

pub owes : RuleOwes enabled edits record_of
owes p j s e = let r = said p j e in let w : Number = unwrap_or (place_of p j) zero_ℚ in record {
  allowed = ((r.live, r.solid), tt);
  ordered = tt;
  reduces = by_edits p (edits p j) (with_bounds (shown p) j (Some w) (Some w)) (λ x. x) zero_ℚ s ((r.live, r.solid), tt)
      (ap (λ (o : Option Number). with_bounds (shown p) j o o) r.place) nothing (dual_fixing (shown p) j w (shows p j s r));
  pairs = λ continuous. pairs_by_edits p (edits p j) (with_bounds (shown p) j (Some w) (Some w)) (undone_pair (record_of p j)) s ((r.live, r.solid), tt)
      (ap (λ (o : Option Number). with_bounds (shown p) j o o) r.place) (cost_pair (shown p) j w (shows p j s r));
  rays = λ continuous. rays_by_edits p (edits p j) (with_bounds (shown p) j (Some w) (Some w)) (record_of p j) s ((r.live, r.solid), tt)
      (ap (λ (o : Option Number). with_bounds (shown p) j o o) r.place) (ray.dual_fixing false false (shown p) j w (shows p j s r));
  sided = λ numbers h. one_sided (SetBounds j (place_of p j) (place_of p j)) tt;
  sound = column_inside p j r.live;
  names = (none_on p.matrix.rows, one_on p.matrix.columns j r.live);
  deletes = refl;
}
