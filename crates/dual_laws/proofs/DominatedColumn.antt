-- K11.
use Rattle.std.proofs.Common.{◌≡◌, ◌≢◌, ◌⊎◌, inl, inr, ℕ, Bool, true, false, not, ◌&&◌, ◌||◌, IsTrue, nat_eq, nat_le, List, [], ◌∷◌, ◌++◌, length, map, Option, Some, None, is_none, unwrap_or, refl, sym, ap, ap₂, ◌∙◌, subst, true≢false}
use Rattle.std.specs.Prelude.{if◌then◌else◌}
use Rattle.std.specs.List.{All, filter}
use Rattle.std.proofs.lemmas.Bool.{and_parts, cases_eq, eq-eqb}
use Rattle.std.proofs.lemmas.List.Elements.{All-cons, All-head}
use Rattle.fractions.specs.Number.{Number, zero_ℚ}
use Rattle.fractions.specs.Order.{◌≤ℚ◌, ≤ℚ_refl}
use Rattle.fractions.specs.Compare.{le_ℚ}
use Rattle.fractions.specs.Comparisons.{le_ℚ-is}
use Rattle.lp_model.specs.declared.terms.Term.{Term}
use Rattle.lp_model.specs.Edits.{with_bounds}
use Rattle.lp_model.specs.EndTests.{is_apart, is_place}
use Rattle.lp_model.specs.Sparse.{dense, has}
use Rattle.lp_model.specs.Vectors.{Vector}
use Rattle.lp_columns.specs.DominatedColumn.{IsDominatedColumn}
use Rattle.lp_columns.proofs.DominatedColumn.{dominated_column}
use Rattle.undo_records.specs.Ids.{ids_of, is_on}
use Rattle.pair_laws.specs.LiftPair.{undone_pair}
use Rattle.pair_laws.proofs.ColumnPairs.{dominated_column_pair}
use Rattle.problem_model.specs.declared.edit.Edit.TheVariants.{SetBounds}
use Rattle.problem_model.specs.declared.part.Contents.{Contents}
use Rattle.problem_model.specs.declared.part.Contents.TheVariants as holding
use Rattle.problem_model.specs.declared.part.Part.{Part}
use Rattle.problem_model.specs.declared.part.Part.TheVariants as part
use Rattle.problem_model.specs.declared.line.Line.{Line}
use Rattle.problem_model.specs.Matrices.{line_at}
use Rattle.problem_model.specs.Parts.{contents_of, bounds_held}
use Rattle.problem_model.specs.Problems.{row_at, column_at, sides_at, bounds_at, cost_at, row_entries, column_entries, IsSparse}
use Rattle.problem_model.specs.Showing.{coefficient_of, end_if, shown}
use Rattle.problem_model.specs.Sparse.{Sparse}
use Rattle.problem_laws.proofs.AtIds.{column_inside, row_inside}
use Rattle.problem_laws.proofs.Terms.{has-cons_same, has-cons_other, dense-absent, not_both}
use Rattle.rule_words.specs.Owed.{Owes}
use Rattle.rule_words.specs.Reading.{terms_in}
use Rattle.rule_words.proofs.Coefficients.{end_live}
use Rattle.rule_words.proofs.EndTestsSay.{not_true, apart_ends, Finite, finite_end}
use Rattle.rule_words.proofs.Named.{lives, one_on, one_sided, nothing}
use Rattle.edit_laws.proofs.Reducing.{by_edits, pairs_by_edits}
use Rattle.ray_step_laws.proofs.Records as ray
use Rattle.ray_step_laws.proofs.RaysBack.{rays_by_edits}
use Rattle.dual_laws.specs.DominatedColumn.{all_take_over, enabled, edits, is_dominated_column, record_of, rows_of_both, share, takes_over}
use Rattle.dual_laws.specs.Locks.{are_uncrossed}
use Rattle.dual_laws.proofs.Locks.{column_has, cost_live, none_is}
use Rattle.rule_words.proofs.Solid.{gap_solid, low_shown, high_shown}

-- what the condition says: a live row and two live columns, j without an upper bound and no dearer than k, which has v as its lower bound
pub record Said (row first second semi other : Bool) (j k : ℕ) (rs ts us : List Term) (c d : Number) (u : Option Number) (w : Bool) (m n : Option Number) (x : Bool) (sides : List Contents) (v : Number) : Type 0 where
  pub row_live : row ≡ true
  pub first_live : first ≡ true
  pub second_live : second ≡ true
  pub first_solid : semi ≡ false
  pub second_solid : other ≡ false
  pub differ : j ≢ k
  pub first_in : has j rs ≡ true
  pub second_in : has k rs ≡ true
  pub endless : u ≡ None
  pub apart : is_apart m n ≡ true
  pub place : Finite m x v
  pub costs : c ≤ℚ d
  pub both_whole : IsTrue w → IsTrue x
  pub rows : all_take_over (dense ts) (dense us) (rows_of_both ts us) sides ≡ true

differ_of : (j k : ℕ) → not (nat_eq j k) ≡ true → j ≢ k
differ_of j k h e = not_true (sym (ap not (eq-eqb j k e)) ∙ h)

whole_too : (w x : Bool) → (not w || x) ≡ true → IsTrue w → IsTrue x
whole_too true x e f = e
whole_too false x e f = absurd (not_true f)

module _ (j k : ℕ) (row ts us : List Term) (c d : Number) (l u m n : Option Number) (w x : Bool) (sides : List Contents) where
  abbrev over : Bool
  over = all_take_over (dense ts) (dense us) (rows_of_both ts us) sides

  parts_said : is_dominated_column (holding.Entries row) (holding.Column ts c) (holding.Column us d) (holding.Bounds l u w) (holding.Bounds m n x) sides j k ≡ true
      → Said true true true false false j k row ts us c d u w m n x sides (unwrap_or m zero_ℚ)
  parts_said e =
      let e1 = and_parts (not (nat_eq j k)) (share row j k && (is_none u && (is_apart m n && (is_place m x && (le_ℚ c d && ((not w || x) && (are_uncrossed sides && over))))))) e in
      let both = and_parts (has j row) (has k row) (and_parts (nat_le (length row) 64) (has j row && has k row) (and_parts (share row j k) (is_none u && (is_apart m n && (is_place m x && (le_ℚ c d && ((not w || x) && (are_uncrossed sides && over)))))) e1.1).0).1 in
      let e2 = and_parts (share row j k) (is_none u && (is_apart m n && (is_place m x && (le_ℚ c d && ((not w || x) && (are_uncrossed sides && over)))))) e1.1 in
      let e3 = and_parts (is_none u) (is_apart m n && (is_place m x && (le_ℚ c d && ((not w || x) && (are_uncrossed sides && over))))) e2.1 in
      let e4 = and_parts (is_apart m n) (is_place m x && (le_ℚ c d && ((not w || x) && (are_uncrossed sides && over)))) e3.1 in
      let e5 = and_parts (is_place m x) (le_ℚ c d && ((not w || x) && (are_uncrossed sides && over))) e4.1 in
      let e6 = and_parts (le_ℚ c d) ((not w || x) && (are_uncrossed sides && over)) e5.1 in
      let e7 = and_parts (not w || x) (are_uncrossed sides && over) e6.1 in
      let e8 = and_parts (are_uncrossed sides) over e7.1 in
      record {
        row_live = refl;
        first_live = refl;
        second_live = refl;
        first_solid = refl;
        second_solid = refl;
        differ = differ_of j k e1.0;
        first_in = both.0;
        second_in = both.1;
        endless = none_is u e3.0;
        apart = e4.0;
        place = finite_end m x e5.0;
        costs = (le_ℚ-is c d).0 e6.0;
        both_whole = whole_too w x e7.0;
        rows = e8.1;
      }

says : (f : Part → Contents) (j k : ℕ) (row ts us : List Term) (c d : Number) (l u m n : Option Number) (w x : Bool) (r a b s t : Bool)
    → is_dominated_column (if r then holding.Entries row else holding.Gone) (if a then holding.Column ts c else holding.Gone) (if b then holding.Column us d else holding.Gone) (if a then bounds_held s l u w else holding.Gone) (if b then bounds_held t m n x else holding.Gone)
    (map f (map part.Sides (rows_of_both (terms_in (if a then holding.Column ts c else holding.Gone)) (terms_in (if b then holding.Column us d else holding.Gone))))) j k ≡ true
    → Said r a b s t j k row ts us c d u w m n x (map f (map part.Sides (rows_of_both ts us))) (unwrap_or m zero_ℚ)
says f j k row ts us c d l u m n w x true true true true t e = absurd (not_true e)
says f j k row ts us c d l u m n w x true true true false true e = absurd (not_true e)
says f j k row ts us c d l u m n w x true true true false false e = parts_said j k row ts us c d l u m n w x (map f (map part.Sides (rows_of_both ts us))) e
says f j k row ts us c d l u m n w x true true false true t e = absurd (not_true e)
says f j k row ts us c d l u m n w x true true false false t e = absurd (not_true e)
says f j k row ts us c d l u m n w x true false b s t e = absurd (not_true e)
says f j k row ts us c d l u m n w x false a b s t e = absurd (not_true e)

abbrev sides_of_both : Sparse → ℕ → ℕ → List Contents
sides_of_both p j k = map (contents_of p) (map part.Sides (rows_of_both (column_entries p j) (column_entries p k)))

abbrev pub SaidAt : Sparse → ℕ → ℕ → ℕ → Type 0
SaidAt p i j k = Said (row_at p i).live (column_at p j).live (column_at p k).live (bounds_at p j).semi (bounds_at p k).semi j k (row_entries p i) (column_entries p j) (column_entries p k) (cost_at p j) (cost_at p k) (bounds_at p j).upper (bounds_at p j).whole
    (bounds_at p k).lower (bounds_at p k).upper (bounds_at p k).whole (sides_of_both p j k) (unwrap_or (bounds_at p k).lower zero_ℚ)

pub said : (p : Sparse) (i j k : ℕ) → enabled p i j k ≡ true → SaidAt p i j k
said p i j k = says (contents_of p) j k (row_entries p i) (column_entries p j) (column_entries p k) (cost_at p j) (cost_at p k) (bounds_at p j).lower (bounds_at p j).upper (bounds_at p k).lower (bounds_at p k).upper
    (bounds_at p j).whole (bounds_at p k).whole (row_at p i).live (column_at p j).live (column_at p k).live (bounds_at p j).semi (bounds_at p k).semi

-- ---- one row
module _ (a b : Number) (l u : Option Number) where
  below_of : (on : Bool) → takes_over a b (if on then holding.Sides l u else holding.Gone) ≡ true → (e : Number) → end_if on u ≡ Some e → a ≤ℚ b
  below_of false h e f = absurd (true≢false (ap is_none f))
  below_of true h e f = by u (and_parts (is_none u || le_ℚ a b) (is_none l || le_ℚ b a) h).0 f
    where
      by : (o : Option Number) → (is_none o || le_ℚ a b) ≡ true → o ≡ Some e → a ≤ℚ b
      by None g q = absurd (true≢false (ap is_none q))
      by (Some y) g q = (le_ℚ-is a b).0 g

  above_of : (on : Bool) → takes_over a b (if on then holding.Sides l u else holding.Gone) ≡ true → (e : Number) → end_if on l ≡ Some e → b ≤ℚ a
  above_of false h e f = absurd (true≢false (ap is_none f))
  above_of true h e f = by l (and_parts (is_none u || le_ℚ a b) (is_none l || le_ℚ b a) h).1 f
    where
      by : (o : Option Number) → (is_none o || le_ℚ b a) ≡ true → o ≡ Some e → b ≤ℚ a
      by None g q = absurd (true≢false (ap is_none q))
      by (Some y) g q = (le_ℚ-is b a).0 g

-- ---- all rows of both
-- what is asked at each row listed holds at each id that is listed
over_at : (p : Sparse) (a b : Vector) (ts : List Term) (i : ℕ) → all_take_over a b (ids_of ts) (map (contents_of p) (map part.Sides (ids_of ts))) ≡ true → has i ts ≡ true → takes_over (a i) (b i) (contents_of p (part.Sides i)) ≡ true
over_at p a b [] i h e = absurd (not_true e)
over_at p a b (t ∷ ts) i h e =
    let g = and_parts (takes_over (a t.id) (b t.id) (contents_of p (part.Sides t.id))) (all_take_over a b (ids_of ts) (map (contents_of p) (map part.Sides (ids_of ts)))) h in
    by (cases_eq t.id i) g.0 (over_at p a b ts i g.1)
  where
    by : (t.id ≡ i) ⊎ (t.id ≢ i) → takes_over (a t.id) (b t.id) (contents_of p (part.Sides t.id)) ≡ true → (has i ts ≡ true → takes_over (a i) (b i) (contents_of p (part.Sides i)) ≡ true) → takes_over (a i) (b i) (contents_of p (part.Sides i)) ≡ true
    by (inl f) k ih = subst (λ (q : ℕ). takes_over (a q) (b q) (contents_of p (part.Sides q)) ≡ true) f k
    by (inr n) k ih = ih (sym (has-cons_other i t ts n) ∙ e)

-- an id of the first terms, or of those of the second whose ids are not among the first
has_more : (i : ℕ) (t : Term) (ts us : List Term) → (has i ts ≡ true → has i us ≡ true) → has i (t ∷ ts) ≡ true → has i (t ∷ us) ≡ true
has_more i t ts us h e = by (cases_eq t.id i)
  where
    by : (t.id ≡ i) ⊎ (t.id ≢ i) → has i (t ∷ us) ≡ true
    by (inl f) = has-cons_same i t us f
    by (inr n) = has-cons_other i t us n ∙ h (sym (has-cons_other i t ts n) ∙ e)

among_first : (i : ℕ) (ts us : List Term) → has i ts ≡ true → has i (ts ++ us) ≡ true
among_first i [] us e = absurd (not_true e)
among_first i (t ∷ ts) us e = has_more i t ts (ts ++ us) (among_first i ts us) e

among_last : (i : ℕ) (ts us : List Term) → has i us ≡ true → has i (ts ++ us) ≡ true
among_last i [] us e = e
among_last i (t ∷ ts) us e = by (cases_eq t.id i) (among_last i ts us e)
  where
    by : (t.id ≡ i) ⊎ (t.id ≢ i) → has i (ts ++ us) ≡ true → has i (t ∷ ts ++ us) ≡ true
    by (inl f) ih = has-cons_same i t (ts ++ us) f
    by (inr n) ih = has-cons_other i t (ts ++ us) n ∙ ih

among_others : (i : ℕ) (ts us : List Term) → has i ts ≡ false → has i us ≡ true → has i (filter (λ u. not (has u.id ts)) us) ≡ true
among_others i ts [] h e = absurd (not_true e)
among_others i ts (u ∷ us) h e = by (has u.id ts) refl (cases_eq u.id i) (among_others i ts us h)
  where
    by : (b : Bool) → has u.id ts ≡ b → (u.id ≡ i) ⊎ (u.id ≢ i) → (has i us ≡ true → has i (filter (λ v. not (has v.id ts)) us) ≡ true)
        → has i (if not b then u ∷ filter (λ v. not (has v.id ts)) us else filter (λ v. not (has v.id ts)) us) ≡ true
    by true g (inl f) ih = absurd (not_both (sym (ap (λ (q : ℕ). has q ts) f) ∙ g) h)
    by true g (inr n) ih = ih (sym (has-cons_other i u us n) ∙ e)
    by false g (inl f) ih = has-cons_same i u (filter (λ v. not (has v.id ts)) us) f
    by false g (inr n) ih = has-cons_other i u (filter (λ v. not (has v.id ts)) us) n ∙ ih (sym (has-cons_other i u us n) ∙ e)

module _ (p : Sparse) (s : IsSparse p) (i j k : ℕ) (r : SaidAt p i j k) where
  abbrev ts : List Term
  ts = column_entries p j

  abbrev us : List Term
  us = column_entries p k

  abbrev all : List Term
  all = ts ++ filter (λ u. not (has u.id ts)) us

  abbrev TakesOver : ℕ → Type 0
  TakesOver q = takes_over (coefficient_of p q j) (coefficient_of p q k) (contents_of p (part.Sides q)) ≡ true

  over_there : (q : ℕ) → has q all ≡ true → TakesOver q
  over_there q e = ap₂ (λ (a b : Number). takes_over a b (contents_of p (part.Sides q))) (column_has p j s r.first_live q) (column_has p k s r.second_live q) ∙ over_at p (dense ts) (dense us) all q r.rows e

  -- what is asked holds at each row, or both coefficients are 0
  at_row : (q : ℕ) → TakesOver q ⊎ (coefficient_of p q j ≡ coefficient_of p q k)
  at_row q = by (has q ts) (has q us) refl refl
    where
      by : (a b : Bool) → has q ts ≡ a → has q us ≡ b → TakesOver q ⊎ (coefficient_of p q j ≡ coefficient_of p q k)
      by true b e f = inl (over_there q (among_first q ts (filter (λ u. not (has u.id ts)) us) e))
      by false true e f = inl (over_there q (among_last q ts (filter (λ u. not (has u.id ts)) us) (among_others q ts us e f)))
      by false false e f = inr (column_has p j s r.first_live q ∙ dense-absent q ts e ∙ sym (column_has p k s r.second_live q ∙ dense-absent q us f))

  below_at : (q : ℕ) (e : Number) → end_if (row_at p q).live (sides_at p q).upper ≡ Some e → TakesOver q ⊎ (coefficient_of p q j ≡ coefficient_of p q k) → coefficient_of p q j ≤ℚ coefficient_of p q k
  below_at q e f (inl h) = below_of (coefficient_of p q j) (coefficient_of p q k) (sides_at p q).lower (sides_at p q).upper (row_at p q).live h e f
  below_at q e f (inr h) = subst (λ (a : Number). coefficient_of p q j ≤ℚ a) h (≤ℚ_refl (coefficient_of p q j))

  above_at : (q : ℕ) (e : Number) → end_if (row_at p q).live (sides_at p q).lower ≡ Some e → TakesOver q ⊎ (coefficient_of p q j ≡ coefficient_of p q k) → coefficient_of p q k ≤ℚ coefficient_of p q j
  above_at q e f (inl h) = above_of (coefficient_of p q j) (coefficient_of p q k) (sides_at p q).lower (sides_at p q).upper (row_at p q).live h e f
  above_at q e f (inr h) = subst (λ (a : Number). a ≤ℚ coefficient_of p q j) h (≤ℚ_refl (coefficient_of p q j))

  costs_shown : (shown p).costs j ≤ℚ (shown p).costs k
  costs_shown = subst (λ (a : Number). a ≤ℚ (shown p).costs k) (sym (cost_live (column_at p j).live (cost_at p j) r.first_live))
      (subst (λ (a : Number). cost_at p j ≤ℚ a) (sym (cost_live (column_at p k).live (cost_at p k) r.second_live)) r.costs)

  abbrev v : Number
  v = unwrap_or (bounds_at p k).lower zero_ℚ

  shows : IsDominatedColumn (shown p) j k v
  shows = record {
    first = column_inside p j r.first_live;
    second = column_inside p k r.second_live;
    differ = r.differ;
    endless = high_shown p j r.first_live r.first_solid ∙ r.endless;
    lower = low_shown p k r.second_live r.second_solid ∙ r.place.value;
    first_solid = gap_solid (column_at p j).live (bounds_at p j) r.first_solid;
    second_solid = gap_solid (column_at p k).live (bounds_at p k) r.second_solid;
    apart = λ u e. apart_ends (bounds_at p k).lower (bounds_at p k).upper r.apart v u r.place.value (sym (high_shown p k r.second_live r.second_solid) ∙ e);
    costs = costs_shown;
    below = λ q l e f. below_at q e f (at_row q);
    above = λ q l e f. above_at q e f (at_row q);
    both_whole = λ h. whole_shown (r.both_whole (and_parts (column_at p j).live (bounds_at p j).whole h).1);
    whole = λ h. r.place.whole (and_parts (column_at p k).live (bounds_at p k).whole h).1;
  }
    where
      whole_shown : IsTrue (bounds_at p k).whole → IsTrue ((shown p).whole k)
      whole_shown h = ap₂ (λ (a b : Bool). a && b) r.second_live h

-- two live columns
two_on : (lines : List Line) (j k : ℕ) → (line_at lines j).live ≡ true → (line_at lines k).live ≡ true → All (λ i. is_on (lives lines) i ≡ true) (j ∷ k ∷ [])
two_on lines j k h g = All-cons (λ i. is_on (lives lines) i ≡ true) j (k ∷ []) (All-head (λ i. is_on (lives lines) i ≡ true) j [] (one_on lines j h)) (one_on lines k g)

pub owes : (p : Sparse) (i j k : ℕ) → IsSparse p → enabled p i j k ≡ true → Owes p (edits p k) (record_of i j k)
owes p i j k s e = let r = said p i j k e in let w : Number = unwrap_or (bounds_at p k).lower zero_ℚ in record {
  allowed = ((r.second_live, r.second_solid), tt);
  ordered = tt;
  reduces = by_edits p (edits p k) (with_bounds (shown p) k (Some w) (Some w)) (λ x. x) zero_ℚ s ((r.second_live, r.second_solid), tt)
      (ap (λ (o : Option Number). with_bounds (shown p) k o o) r.place.value) nothing (dominated_column (shown p) j k w (shows p s i j k r));
  pairs = λ continuous. pairs_by_edits p (edits p k) (with_bounds (shown p) k (Some w) (Some w)) (undone_pair (record_of i j k)) s ((r.second_live, r.second_solid), tt)
      (ap (λ (o : Option Number). with_bounds (shown p) k o o) r.place.value) (dominated_column_pair (shown p) i j k w (shows p s i j k r));
  rays = λ continuous. rays_by_edits p (edits p k) (with_bounds (shown p) k (Some w) (Some w)) (record_of i j k) s ((r.second_live, r.second_solid), tt)
      (ap (λ (o : Option Number). with_bounds (shown p) k o o) r.place.value) (ray.dominated false false (shown p) i j k w (shows p s i j k r));
  sided = λ numbers h. one_sided (SetBounds k (bounds_at p k).lower (bounds_at p k).lower) tt;
  sound = (row_inside p i r.row_live, (column_inside p j r.first_live, column_inside p k r.second_live, r.differ));
  names = (one_on p.matrix.rows i r.row_live, two_on p.matrix.columns j k r.first_live r.second_live);
  deletes = refl;
}
