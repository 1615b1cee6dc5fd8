-- The ray of each verdict that says that no point is feasible.
use Rattle.std.proofs.Common.{◌≡◌, ℕ, Bool, true, false, ◌||◌, Option, refl, sym, ap, ap₂, ◌∙◌, subst, true≢false, Ok, Err, Result, List, length}
use Rattle.fractions.specs.Number.{Number}
use Rattle.fractions.specs.declared.Past.{Past}
use Rattle.lp_model.specs.EndTests.{is_crossed}
use Rattle.lp_theory.specs.Activities.{least, greatest}
use Rattle.std.specs.Prelude.{if◌then◌else◌, IfOk}
use Rattle.lp_model.specs.Vectors.{Vector}
use Rattle.lp_model.specs.Sparse.{Ascends, dense}
use Rattle.lp_model.specs.declared.terms.Term.{Term}
use Rattle.lp_rays.specs.Starts.{at_row_above, at_row_below}
use Rattle.problem_laws.proofs.Entries.{row_entries-ascend}
use Rattle.lp_theory.specs.Crossed.{AreCrossed}
use Rattle.lp_rays.specs.Ray.{Ray, Weights}
use Rattle.lp_rays.specs.RayData.{RayData, weights_of}
use Rattle.ray_rows.proofs.Starts.{crossed_column_ray, crossed_row_ray, above_ray, below_ray}
use Rattle.problem_model.specs.Problems.{row_at, column_at, sides_at, bounds_at, row_entries, IsSparse}
use Rattle.lp_model.specs.Gaps.{reach_lower, reach_upper}
use Rattle.problem_model.specs.Showing.{end_if, shown}
use Rattle.problem_model.specs.Sparse.{Sparse}
use Rattle.problem_laws.proofs.AtIds.{row_inside, column_inside}
use Rattle.rule_words.proofs.Coefficients.{end_live}
use Rattle.rule_words.proofs.EndTestsSay.{crossed_ends, not_true}
use Rattle.row_spans.specs.declared.span.Extreme.TheVariants.{Least}
use Rattle.row_spans.specs.RowSums.{activity}
use Rattle.row_spans.specs.Spans.{spans_of}
use Rattle.singleton_laws.proofs.CrossedBounds as crossed_bounds
use Rattle.singleton_laws.proofs.CrossedSides as crossed_sides
use Rattle.activity_laws.specs.InfeasibleRow.{enabled, is_infeasible_row}
use Rattle.activity_laws.proofs.Rows.{AreKnown, known, row_dense, said}
use Rattle.presolve_model.specs.declared.instance.Instance.TheVariants as at
use Rattle.presolve_model.specs.declared.instance.Verdict.{Verdict}
use Rattle.presolve_model.specs.declared.instance.Verdict.TheVariants.{CrossedBounds, CrossedSides, InfeasibleRow, UnboundedColumn}
use Rattle.presolve_model.specs.Enabled.{enabled_on}
use Rattle.presolve_model.specs.Meanings.{says_no_point}
use Rattle.ray_starts.specs.Starts.{at_missed_side, is_above, start_of}

pub row_live : (p : Sparse) (i : ℕ) → enabled p i ≡ true → (row_at p i).live ≡ true
row_live p i e = (said is_infeasible_row p i e).live

pub activities : (p : Sparse) (i : ℕ) → IsSparse p → enabled p i ≡ true → AreKnown p i (λ a b. is_crossed a (sides_at p i).upper || is_crossed (sides_at p i).lower b)
activities p i s e = let r = said is_infeasible_row p i e in known p i (λ a b. is_crossed a (sides_at p i).upper || is_crossed (sides_at p i).lower b) s r.live r.holds

upper_shown : (p : Sparse) (i : ℕ) → (row_at p i).live ≡ true → (shown p).upper_side i ≡ (sides_at p i).upper
upper_shown p i live = end_live (row_at p i).live (sides_at p i).upper live

lower_shown : (p : Sparse) (i : ℕ) → (row_at p i).live ≡ true → (shown p).lower_side i ≡ (sides_at p i).lower
lower_shown p i live = end_live (row_at p i).live (sides_at p i).lower live

abbrev end_in : Option Number → Result (Option Number) Past → Option Number
end_in d (Ok z) = z
end_in d (Err w) = d

abbrev is_past : Result (Option Number) Past → Bool
is_past (Ok z) = false
is_past (Err w) = true

-- what the least activity tells
pub above_is : (p : Sparse) (i : ℕ) (a : Option Number) (r : Result (Option Number) Past) → IsSparse p → enabled p i ≡ true → r ≡ activity Least (spans_of p i) → r ≡ Ok a → is_crossed a (sides_at p i).upper ≡ is_above (shown p) i
above_is p i a r s e f g = ap₂ (λ x y. is_crossed x y) (ap (end_in a) (sym g ∙ f ∙ (activities p i s e).low)) (sym (upper_shown p i (row_live p i e)))

pub no_past : (p : Sparse) (i : ℕ) (w : Past) (r : Result (Option Number) Past) → IsSparse p → enabled p i ≡ true → r ≡ activity Least (spans_of p i) → r ≡ Err w → ⊥
no_past p i w r s e f g = true≢false (ap is_past (sym g ∙ f ∙ (activities p i s e).low))

missed : (p : Sparse) (i : ℕ) → IsSparse p → enabled p i ≡ true → (b : Bool) → is_above (shown p) i ≡ b → Ray (shown p) (at_missed_side b (shown p) i)
missed p i s e true a = above_ray (shown p) i (record { row = row_inside p i (row_live p i e); above = crossed_ends (least (shown p) i) ((shown p).upper_side i) a })
missed p i s e false a =
    let live = row_live p i e in
    let k = activities p i s e in
    below_ray (shown p) i (record {
      row = row_inside p i live;
      below = crossed_ends ((shown p).lower_side i) (greatest (shown p) i) (ap (λ o. is_crossed o (greatest (shown p) i)) (lower_shown p i live) ∙ second _ _ (ap (λ o. is_crossed (least (shown p) i) o) (sym (upper_shown p i live)) ∙ a) k.holds);
    })
  where
    second : (b c : Bool) → b ≡ false → (b || c) ≡ true → c ≡ true
    second true c f t = absurd (true≢false f)
    second false c f t = t

-- crossed ends of what is live are shown
bounds_crossed : (on semi : Bool) (l u : Option Number) → crossed_bounds.Said on semi l u → AreCrossed (end_if on (reach_lower semi l u)) (end_if on (reach_upper semi l u))
bounds_crossed on semi l u c = subst (λ (t : Bool). AreCrossed (end_if on (reach_lower t l u)) (end_if on (reach_upper t l u))) (sym c.solid) (subst (λ (b : Bool). AreCrossed (end_if b l) (end_if b u)) (sym c.live) c.ends)

sides_crossed : (on : Bool) (l u : Option Number) → crossed_sides.Said on l u → AreCrossed (end_if on l) (end_if on u)
sides_crossed on l u c = subst (λ (b : Bool). AreCrossed (end_if b l) (end_if b u)) (sym c.live) c.ends

pub starts_are_rays : (p : Sparse) (v : Verdict) → IsSparse p → enabled_on p (at.Verdict v) ≡ true → says_no_point v ≡ true → Ray (shown p) (start_of (shown p) v)
starts_are_rays p (CrossedBounds j) s e n = let c = crossed_bounds.said p j e in
    crossed_column_ray (shown p) j (record { column = column_inside p j c.live; crossed = bounds_crossed (column_at p j).live (bounds_at p j).semi (bounds_at p j).lower (bounds_at p j).upper c })
starts_are_rays p (CrossedSides i) s e n = let c = crossed_sides.said p i e in
    crossed_row_ray (shown p) i (record { row = row_inside p i c.live; crossed = sides_crossed (row_at p i).live (sides_at p i).lower (sides_at p i).upper c })
starts_are_rays p (InfeasibleRow i) s e n = missed p i s e (is_above (shown p) i) refl
starts_are_rays p (UnboundedColumn j) s e n = absurd (not_true n)

-- the entries that a row lists are its coefficients
pub missed_is : (p : Sparse) (i : ℕ) (ts : List Term) (b : Bool) → (row_at p i).live ≡ true → ts ≡ row_entries p i → b ≡ is_above (shown p) i
    → (if b then at_row_above i (dense ts) else at_row_below i (dense ts)) ≡ at_missed_side (is_above (shown p) i) (shown p) i
missed_is p i ts b live e f = ap₂ (λ (a : Vector) c. if c then at_row_above i a else at_row_below i a) (ap dense e ∙ row_dense p i live) f

pub row_ascends : (p : Sparse) (i n : ℕ) (ts us : List Term) → IsSparse p → ts ≡ us → us ≡ row_entries p i → n ≡ length p.matrix.columns → Ascends 0 n ts
row_ascends p i n ts us s e f g = subst (λ (k : ℕ). Ascends 0 k ts) (sym g) (subst (λ vs. Ascends 0 (length p.matrix.columns) vs) (sym (e ∙ f)) (row_entries-ascend p i s))

-- what was made has the weights of the verdict, and so it is a ray
pub made_rays : {E : Type 0} (p : Sparse) (v w : Verdict) (r : Result RayData E) → IsSparse p → enabled_on p (at.Verdict v) ≡ true → says_no_point v ≡ true → v ≡ w → IfOk r (λ ray. weights_of ray ≡ start_of (shown p) w)
    → IfOk r (λ ray. Ray (shown p) (weights_of ray))
made_rays p v w (Ok ray) s e n is h = subst (λ (x : Weights). Ray (shown p) x) (ap (start_of (shown p)) is ∙ sym h) (starts_are_rays p v s e n)
made_rays p v w (Err x) s e n is h = h
