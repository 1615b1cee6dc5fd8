-- What a tableau at which no rule finds a next step says of its program.
use Rattle.std.proofs.Common.{◌≡◌, ◌≢◌, ℕ, ◌+◌, ◌<◌, pos, sym, refl, ap, ap₂, ◌∙◌, arith, [], ◌∷◌, ◌⊎◌, inl, inr, subst, Bool, true, false, true≢false, Option, Some, None}
use Rattle.std.proofs.lemmas.Bool.{cases_eq}
use Rattle.fractions.specs.Ring.{ring, v, num, ◌:+◌, ◌:-◌, ◌:*◌, inv}
use Rattle.fractions.specs.Number.{Number, rational, zero_ℚ, one_ℚ, ◌+ℚ◌, ◌-ℚ◌, ◌*ℚ◌, neg_ℚ}
use Rattle.fractions.specs.Order.{◌≤ℚ◌, ◌<ℚ◌, ≤ℚ_refl, ≤ℚ-by, ≤ℚ_cases, <ℚ-not}
use Rattle.fractions.specs.Linear.{linear, fact}
use Rattle.fractions.specs.Inverse.{inv_ℚ, ◌/ℚ◌, not_one-≤-zero}
use Rattle.fractions.specs.Total.{total, put}
use Rattle.fractions.specs.Ends.{AtLeast, AtMost, Between}
use Rattle.fractions.proofs.Totals.{total_same, total-*, total-zero, total-≤, total-put_point, put-same, put-other, at_or_off}
use Rattle.fractions.specs.Signs.{≤ℚ-same, over-times, over-≤_down, <ℚ-≢'}
use Rattle.lp_model.specs.declared.program.Sense.TheVariants.{Min}
use Rattle.lp_model.specs.Vectors.{Vector}
use Rattle.lp_model.specs.Gaps.{Clears}
use Rattle.lp_model.specs.LinearProgram.{LinearProgram, value_at, Feasible}
use Rattle.lp_model.specs.Senses.{Sits}
use Rattle.lp_model.specs.Optimality.{Continuous, reduced_cost, Meets}
use Rattle.lp_model.specs.Verdicts.{NoPoint, Endless}
use Rattle.lp_theory.specs.Crossed.{AreCrossed}
use Rattle.lp_theory.proofs.CrossedEnds.{at_upper_end, at_lower_end, not_crossed}
use Rattle.lp_theory.proofs.Pairs.{below_if_not}
use Rattle.tableau_laws.specs.Variables.{variables, lower_end, upper_end, extended, IsExtended, Rests}
use Rattle.tableau_laws.specs.Tableaus.{Tableau, moved, Solves, CanShift}
use Rattle.tableau_laws.specs.Keeping.{IsSplit, IsTableau}
use Rattle.simplex_laws.specs.Runs.{NoneCrossed}
use Rattle.simplex_laws.specs.Choices.{IsWithin, NoneLeaves, NoneEnters, towards, downhill}
use Rattle.tableau_laws.proofs.Joins.{joined-left, joined-right, at_or_from, total_split}
use Rattle.tableau_laws.proofs.Keeps.{moved_solves, moved_other, stays, times_zero, zero_times}
use Rattle.simplex_laws.proofs.Ends.{term_most, price_sits, price_zero, free_ahead}

-- ---- points and variables
pub extended_is : (M : LinearProgram) (x : Vector) → IsExtended M (extended M x)
extended_is M x i l = joined-right M.columns x (λ i. value_at M i x) i
    ∙ total_same M.columns (λ j. M.coefficient i j *ℚ x j) (λ j. M.coefficient i j *ℚ extended M x j) (λ j k. ap (λ z. M.coefficient i j *ℚ z) (sym (joined-left M.columns x (λ i. value_at M i x) j k)))

between_at : (M : LinearProgram) (x : Vector) (k : ℕ) (l u : Option Number) (z : Number) → l ≡ lower_end M k → u ≡ upper_end M k → z ≡ x k → Between l u z → Between (lower_end M k) (upper_end M k) (x k)
between_at M x k l u z el eu ez b = record {
  low = subst (λ o. AtLeast o (x k)) el (subst (λ y. AtLeast l y) ez b.low);
  high = subst (λ o. AtMost o (x k)) eu (subst (λ y. AtMost u y) ez b.high);
}

-- each variable of a feasible point is within its ends
pub feasible_within : (M : LinearProgram) (x : Vector) → Feasible M x → (k : ℕ) → k < variables M → Between (lower_end M k) (upper_end M k) (extended M x k)
feasible_within M x f = at_or_from (λ k. Between (lower_end M k) (upper_end M k) (extended M x k)) M.columns M.rows
    (λ k l. between_at M (extended M x) k (M.lower_bound k) (M.upper_bound k) (x k)
    (sym (joined-left M.columns M.lower_bound M.lower_side k l)) (sym (joined-left M.columns M.upper_bound M.upper_side k l)) (sym (joined-left M.columns x (λ i. value_at M i x) k l))
    (f.columns k l))
    (λ i l. between_at M (extended M x) (M.columns + i) (M.lower_side i) (M.upper_side i) (value_at M i x)
    (sym (joined-right M.columns M.lower_bound M.lower_side i)) (sym (joined-right M.columns M.upper_bound M.upper_side i)) (sym (joined-right M.columns x (λ i. value_at M i x) i))
    (f.rows i l))

-- and the other way
pub within_feasible : (M : LinearProgram) (x : Vector) → Continuous M → IsExtended M x → ((k : ℕ) → k < variables M → Between (lower_end M k) (upper_end M k) (x k)) → Feasible M x
within_feasible M x c e w = record {
  rows = λ i l. let k : M.columns + i < variables M = omega arith in
      let b = w (M.columns + i) k in record {
        low = subst (λ z. AtLeast (M.lower_side i) z) (e i l) (subst (λ o. AtLeast o (x (M.columns + i))) (joined-right M.columns M.lower_bound M.lower_side i) b.low);
        high = subst (λ z. AtMost (M.upper_side i) z) (e i l) (subst (λ o. AtMost o (x (M.columns + i))) (joined-right M.columns M.upper_bound M.upper_side i) b.high);
      };
  columns = λ j l. let k : j < variables M = omega arith in
      let b = w j k in record {
        low = subst (λ o. AtLeast o (x j)) (joined-left M.columns M.lower_bound M.lower_side j l) b.low;
        high = subst (λ o. AtMost o (x j)) (joined-left M.columns M.upper_bound M.upper_side j l) b.high;
      };
  whole = λ j l t. absurd (true≢false (sym t ∙ (c j l).0));
  gaps = λ j l. subst (λ o. Clears o (x j)) (sym (c j l).1) tt;
}

-- ---- infeasible
-- a basic variable that no other variable can make greater is at least that of each feasible point
pub most_here : (M : LinearProgram) (t : Tableau) (b : ℕ) (s : Number) → IsTableau M t → b < t.size → t.basic b ≡ true → NoneEnters M t (towards t b s)
    → (x : Vector) → Feasible M x → (s *ℚ extended M x b) ≤ℚ (s *ℚ t.values b)
most_here M t b s i lb bb n x f =
    subst (λ z. z ≤ℚ (s *ℚ t.values b)) (sym (scaled_sum (extended M x) ((i.points (extended M x)).0 (extended_is M x))))
    (subst (λ z. total t.size (λ k. s *ℚ t.table b k *ℚ extended M x k) ≤ℚ z) (sym (scaled_sum t.values i.values))
    (total-≤ t.size (λ k. s *ℚ t.table b k *ℚ extended M x k) (λ k. s *ℚ t.table b k *ℚ t.values k) (λ k l. by k l (t.basic k) refl)))
  where
    scaled_sum : (y : Vector) → Solves t y → s *ℚ y b ≡ total t.size (λ k. s *ℚ t.table b k *ℚ y k)
    scaled_sum y o = ap (λ z. s *ℚ z) (o b lb bb) ∙ sym (total-* t.size s (λ k. t.table b k *ℚ y k))
        ∙ total_same t.size (λ k. s *ℚ (t.table b k *ℚ y k)) (λ k. s *ℚ t.table b k *ℚ y k) (λ k l. ring rational (s ∷ t.table b k ∷ y k ∷ []) (v 0 :* (v 1 :* v 2)) (v 0 :* v 1 :* v 2) refl)

    empty : (k : ℕ) → k < t.size → t.basic k ≡ true → (y : Number) → s *ℚ t.table b k *ℚ y ≡ zero_ℚ
    empty k l q y = zero_times (s *ℚ t.table b k) y (times_zero s (t.table b k) (i.split.columns b k lb l q))

    by : (k : ℕ) → k < t.size → (q : Bool) → t.basic k ≡ q → (s *ℚ t.table b k *ℚ extended M x k) ≤ℚ (s *ℚ t.table b k *ℚ t.values k)
    by k l true q = ≤ℚ-same (empty k l q (extended M x k) ∙ sym (empty k l q (t.values k)))
    by k l false q = term_most (s *ℚ t.table b k) (t.values k) (extended M x k) (lower_end M k) (upper_end M k) (n k l q) (feasible_within M x f k (subst (λ z. k < z) i.size l))

pub stuck_below : (M : LinearProgram) (t : Tableau) (b : ℕ) (l : Number) → IsTableau M t → b < t.size → t.basic b ≡ true → lower_end M b ≡ Some l → t.values b <ℚ l → NoneEnters M t (towards t b one_ℚ) → NoPoint M
stuck_below M t b l i lb bb e h n x f =
    let w = feasible_within M x f b (subst (λ z. b < z) i.size lb) in
    let low : l ≤ℚ extended M x b = subst (λ o. AtLeast o (extended M x b)) e w.low in
    <ℚ-not h (linear (l ∷ extended M x b ∷ t.values b ∷ []) (fact 1 (v 0) (v 1) ∷ fact 1 (num (pos 1) :* v 1) (num (pos 1) :* v 2) ∷ []) 0 (v 0) (v 2) (low, (most_here M t b one_ℚ i lb bb n x f, tt)) refl)

pub stuck_above : (M : LinearProgram) (t : Tableau) (b : ℕ) (u : Number) → IsTableau M t → b < t.size → t.basic b ≡ true → upper_end M b ≡ Some u → u <ℚ t.values b → NoneEnters M t (towards t b (neg_ℚ one_ℚ)) → NoPoint M
stuck_above M t b u i lb bb e h n x f =
    let w = feasible_within M x f b (subst (λ z. b < z) i.size lb) in
    let high : extended M x b ≤ℚ u = subst (λ o. AtMost o (extended M x b)) e w.high in
    <ℚ-not h (linear (u ∷ extended M x b ∷ t.values b ∷ []) (fact 1 (v 1) (v 0) ∷ fact 1 (inv (num (pos 1)) :* v 1) (inv (num (pos 1)) :* v 2) ∷ []) 0 (v 2) (v 0) (high, (most_here M t b (neg_ℚ one_ℚ) i lb bb n x f, tt)) refl)

pub crossed_none : (M : LinearProgram) (k : ℕ) → k < variables M → AreCrossed (lower_end M k) (upper_end M k) → NoPoint M
crossed_none M k l c x f = not_crossed (lower_end M k) (upper_end M k) (extended M x k) c (feasible_within M x f k l)

-- ---- feasible
rests_within : (l u : Option Number) (x : Number) → (AreCrossed l u → ⊥) → Rests l u x → Between l u x
rests_within None None x n r = record { low = tt; high = tt }
rests_within None (Some u) x n r = record { low = tt; high = ≤ℚ-same (sym r) }
rests_within (Some l) None x n r = record { low = ≤ℚ-same r; high = tt }
rests_within (Some l) (Some u) x n (inl r) = subst (λ z. Between (Some l) (Some u) z) r (record { low = ≤ℚ_refl l; high = at_lower_end (Some u) l n })
rests_within (Some l) (Some u) x n (inr r) = subst (λ z. Between (Some l) (Some u) z) r (record { low = at_upper_end (Some l) u n; high = ≤ℚ_refl u })

pub all_within : (M : LinearProgram) (t : Tableau) → IsTableau M t → NoneCrossed M → NoneLeaves M t → (k : ℕ) → k < t.size → IsWithin M t k
all_within M t i n o k l = by (t.basic k) refl
  where
    by : (q : Bool) → t.basic k ≡ q → IsWithin M t k
    by true q = o k l q
    by false q = rests_within (lower_end M k) (upper_end M k) (t.values k) (n k (subst (λ z. k < z) i.size l)) (i.rests k l q)

pub values_feasible : (M : LinearProgram) (t : Tableau) → IsTableau M t → Continuous M → NoneCrossed M → NoneLeaves M t → Feasible M t.values
values_feasible M t i c n o = within_feasible M t.values c ((i.points t.values).1 i.values) (λ k l. all_within M t i n o k (subst (λ z. k < z) (sym i.size) l))

-- ---- optimal

-- the point that is 1 at j
unit : ℕ → Vector
unit j = put (λ k. zero_ℚ) j one_ℚ

unit_sum : (n : ℕ) (a : Vector) (j : ℕ) → j < n → total n (λ k. a k *ℚ unit j k) ≡ a j
unfolding unit
unit_sum n a j l = total-put_point n a (λ k. zero_ℚ) j one_ℚ l
    ∙ ap (λ z. z +ℚ a j *ℚ (one_ℚ -ℚ zero_ℚ)) (total-zero n (λ k. a k *ℚ zero_ℚ) (λ k l. ring rational (a k ∷ []) (v 0 :* num (pos 0)) (num (pos 0)) refl))
    ∙ ring rational (a j ∷ []) (num (pos 0) :+ v 0 :* (num (pos 1) :- num (pos 0))) (v 0) refl

-- a column's price is its reduced cost
pub prices_reduced : (M : LinearProgram) (t : Tableau) → IsTableau M t → (j : ℕ) → j < M.columns → reduced_cost M (λ i. t.prices (M.columns + i)) j ≡ t.prices j
prices_reduced M t i j l =
    ap (λ c. c -ℚ total M.rows (λ p. t.prices (M.columns + p) *ℚ M.coefficient p j)) (sym both)
    ∙ ring rational (t.prices j ∷ total M.rows (λ p. t.prices (M.columns + p) *ℚ M.coefficient p j) ∷ []) ((v 0 :+ v 1) :- v 1) (v 0) refl
  where
    x : Vector
    x = extended M (unit j)

    front : total M.columns (λ k. t.prices k *ℚ extended M (unit j) k) ≡ t.prices j
    front = total_same M.columns (λ k. t.prices k *ℚ extended M (unit j) k) (λ k. t.prices k *ℚ unit j k) (λ k m. ap (λ z. t.prices k *ℚ z) (joined-left M.columns (unit j) (λ i. value_at M i (unit j)) k m))
        ∙ unit_sum M.columns t.prices j l

    back : total M.rows (λ p. t.prices (M.columns + p) *ℚ extended M (unit j) (M.columns + p)) ≡ total M.rows (λ p. t.prices (M.columns + p) *ℚ M.coefficient p j)
    back = total_same M.rows (λ p. t.prices (M.columns + p) *ℚ extended M (unit j) (M.columns + p)) (λ p. t.prices (M.columns + p) *ℚ M.coefficient p j)
        (λ p m. ap (λ z. t.prices (M.columns + p) *ℚ z) (joined-right M.columns (unit j) (λ i. value_at M i (unit j)) p ∙ unit_sum M.columns (M.coefficient p) j l))

    costs : total M.columns (λ k. M.costs k *ℚ extended M (unit j) k) ≡ M.costs j
    costs = total_same M.columns (λ k. M.costs k *ℚ extended M (unit j) k) (λ k. M.costs k *ℚ unit j k) (λ k m. ap (λ z. M.costs k *ℚ z) (joined-left M.columns (unit j) (λ i. value_at M i (unit j)) k m))
        ∙ unit_sum M.columns M.costs j l

    both : t.prices j +ℚ total M.rows (λ p. t.prices (M.columns + p) *ℚ M.coefficient p j) ≡ M.costs j
    both = sym (ap₂ ◌+ℚ◌ front back)
        ∙ sym (total_split M.columns M.rows (λ k. t.prices k *ℚ extended M (unit j) k))
        ∙ ap (λ n. total n (λ k. t.prices k *ℚ extended M (unit j) k)) (sym i.size)
        ∙ i.costs (extended M (unit j)) (extended_is M (unit j))
        ∙ costs

pub all_sit : (M : LinearProgram) (t : Tableau) → IsTableau M t → NoneCrossed M → NoneLeaves M t → NoneEnters M t (downhill t) → (k : ℕ) → k < t.size → Sits Min (lower_end M k) (upper_end M k) (t.values k) (t.prices k)
all_sit M t i n o e k l = by (t.basic k) refl
  where
    by : (q : Bool) → t.basic k ≡ q → Sits Min (lower_end M k) (upper_end M k) (t.values k) (t.prices k)
    by true q = price_zero (t.prices k) (t.values k) (lower_end M k) (upper_end M k) (i.split.prices k l q)
    by false q = price_sits (t.prices k) (t.values k) (lower_end M k) (upper_end M k) (e k l q) (all_within M t i n o k l)

sits_same : (l l' u u' : Option Number) (x x' d d' : Number) → l ≡ l' → u ≡ u' → x ≡ x' → d ≡ d' → Sits Min l u x d → Sits Min l' u' x' d'
sits_same l l' u u' x x' d d' el eu ex ed s = rw (← el, ← eu, ← ex, ← ed) s

pub optimal_meets : (M : LinearProgram) (t : Tableau) → IsTableau M t → Continuous M → NoneCrossed M → NoneLeaves M t → NoneEnters M t (downhill t) → Meets Min M t.values (λ i. t.prices (M.columns + i))
optimal_meets M t i c n o e = record {
  continuous = c;
  feasible = values_feasible M t i c n o;
  rows = λ p l. let k : M.columns + p < t.size = rw i.size (omega arith) in
      sits_same (lower_end M (M.columns + p)) (M.lower_side p) (upper_end M (M.columns + p)) (M.upper_side p) (t.values (M.columns + p)) (value_at M p t.values) (t.prices (M.columns + p)) (t.prices (M.columns + p))
      (joined-right M.columns M.lower_bound M.lower_side p) (joined-right M.columns M.upper_bound M.upper_side p) ((i.points t.values).1 i.values p l) refl
      (all_sit M t i n o e (M.columns + p) k);
  columns = λ j l. let k : j < t.size = rw i.size (omega arith) in
      sits_same (lower_end M j) (M.lower_bound j) (upper_end M j) (M.upper_bound j) (t.values j) (t.values j) (t.prices j) (reduced_cost M (λ i. t.prices (M.columns + i)) j)
      (joined-left M.columns M.lower_bound M.lower_side j l) (joined-left M.columns M.upper_bound M.upper_side j l) refl (sym (prices_reduced M t i j l))
      (all_sit M t i n o e j k);
}

-- ---- unbounded
-- no end is ahead where e goes by f
pub record IsFree (M : LinearProgram) (t : Tableau) (e : ℕ) (f : Number) : Type 0 where
  pub ahead : (m : ℕ) → m < t.size → t.basic m ≡ true → (zero_ℚ <ℚ (t.table m e *ℚ f) → upper_end M m ≡ None) × ((t.table m e *ℚ f) <ℚ zero_ℚ → lower_end M m ≡ None)
  pub own : (zero_ℚ <ℚ f → upper_end M e ≡ None) × (f <ℚ zero_ℚ → lower_end M e ≡ None)

free_within : (M : LinearProgram) (t : Tableau) (e : ℕ) (f s : Number) → IsTableau M t → CanShift t e → IsFree M t e f → zero_ℚ ≤ℚ s → ((k : ℕ) → k < t.size → IsWithin M t k)
    → (k : ℕ) → k < t.size → Between (lower_end M k) (upper_end M k) (moved t e (f *ℚ s) k)
free_within M t e f s i h r ps w = at_or_off (λ k. k < t.size → Between (lower_end M k) (upper_end M k) (moved t e (f *ℚ s) k)) e
    (λ l. subst (λ z. Between (lower_end M e) (upper_end M e) z) (sym (put-same (λ m. t.values m +ℚ t.table m e *ℚ (f *ℚ s)) e (t.values e +ℚ f *ℚ s)))
    (free_ahead (lower_end M e) (upper_end M e) (t.values e) f s (w e l) ps r.own.0 r.own.1))
    (λ k n l. by k n l (t.basic k) refl)
  where
    by : (k : ℕ) → k ≢ e → k < t.size → (q : Bool) → t.basic k ≡ q → Between (lower_end M k) (upper_end M k) (moved t e (f *ℚ s) k)
    by k n l true q = subst (λ z. Between (lower_end M k) (upper_end M k) z)
        (ring rational (t.values k ∷ t.table k e ∷ f ∷ s ∷ []) (v 0 :+ v 1 :* v 2 :* v 3) (v 0 :+ v 1 :* (v 2 :* v 3)) refl ∙ sym (moved_other t e (f *ℚ s) k n))
        (free_ahead (lower_end M k) (upper_end M k) (t.values k) (t.table k e *ℚ f) s (w k l) ps (r.ahead k l q).0 (r.ahead k l q).1)
    by k n l false q = subst (λ z. Between (lower_end M k) (upper_end M k) z) (sym (stays t e (f *ℚ s) k i.split h.e_within l q n)) (w k l)

-- what the prices cost where e gains w
moved_costs : (t : Tableau) (e : ℕ) (w : Number) → IsSplit t → CanShift t e → total t.size (λ k. t.prices k *ℚ moved t e w k) ≡ total t.size (λ k. t.prices k *ℚ t.values k) +ℚ t.prices e *ℚ w
moved_costs t e w s h =
    total_same t.size (λ k. t.prices k *ℚ moved t e w k) (λ k. t.prices k *ℚ put t.values e (t.values e +ℚ w) k) (λ k l. by k l (cases_eq k e) (t.basic k) refl)
    ∙ total-put_point t.size t.prices t.values e (t.values e +ℚ w) h.e_within
    ∙ ring rational (total t.size (λ k. t.prices k *ℚ t.values k) ∷ t.prices e ∷ w ∷ t.values e ∷ []) (v 0 :+ v 1 :* ((v 3 :+ v 2) :- v 3)) (v 0 :+ v 1 :* v 2) refl
  where
    by : (k : ℕ) → k < t.size → (k ≡ e) ⊎ (k ≢ e) → (q : Bool) → t.basic k ≡ q → t.prices k *ℚ moved t e w k ≡ t.prices k *ℚ put t.values e (t.values e +ℚ w) k
    by k l (inl same) q o = rw same (ap (λ z. t.prices e *ℚ z) (put-same (λ m. t.values m +ℚ t.table m e *ℚ w) e (t.values e +ℚ w) ∙ sym (put-same t.values e (t.values e +ℚ w))))
    by k l (inr n) true o = zero_times (t.prices k) (moved t e w k) (s.prices k l o) ∙ sym (zero_times (t.prices k) (put t.values e (t.values e +ℚ w) k) (s.prices k l o))
    by k l (inr n) false o = ap (λ z. t.prices k *ℚ z) (stays t e w k s h.e_within l o n ∙ sym (put-other t.values e (t.values e +ℚ w) k n))

-- how far e goes to cost less than c, from the cost a, where a step costs d
far : (a c d : Number) → d <ℚ zero_ℚ → (s : Number) × (zero_ℚ ≤ℚ s) × ((a +ℚ d *ℚ s) <ℚ c)
far a c d h = elim (≤ℚ_cases c a) [
  | inr p ↦ (zero_ℚ, ≤ℚ_refl zero_ℚ, subst (λ z. z <ℚ c) (ring rational (a ∷ d ∷ []) (v 0) (v 0 :+ v 1 :* num (pos 0)) refl) p)
  | inl q ↦ (
    (c -ℚ one_ℚ -ℚ a) /ℚ d,
    subst (λ z. z ≤ℚ ((c -ℚ one_ℚ -ℚ a) /ℚ d)) (ring rational (inv_ℚ d ∷ []) (num (pos 0) :* v 0) (num (pos 0)) refl)
        (over-≤_down d h (linear (a ∷ c ∷ []) (fact 1 (v 1) (v 0) ∷ []) 1 (v 1 :- num (pos 1) :- v 0) (num (pos 0)) (q, tt) refl)),
    subst (λ z. z <ℚ c) (ring rational (c ∷ a ∷ []) (v 0 :- num (pos 1)) (v 1 :+ (v 0 :- num (pos 1) :- v 1)) refl ∙ ap (λ z. a +ℚ z) (sym (over-times d (c -ℚ one_ℚ -ℚ a) (<ℚ-≢' h))))
        (below_if_not (λ k. not_one-≤-zero (linear (c ∷ []) (fact 1 (v 0) (v 0 :- num (pos 1)) ∷ []) 0 (num (pos 1)) (num (pos 0)) (k, tt) refl))),
  )
]

pub free_endless : (M : LinearProgram) (t : Tableau) (e : ℕ) (f : Number) → IsTableau M t → Continuous M → NoneCrossed M → NoneLeaves M t → CanShift t e → (t.prices e *ℚ f) <ℚ zero_ℚ → IsFree M t e f → Endless Min M
free_endless M t e f i c n o h d r K =
    let far_enough = far (total M.columns (λ j. M.costs j *ℚ t.values j)) (K -ℚ M.constant) (t.prices e *ℚ f) d in
    let s : Number = far_enough.0 in (
      moved t e (f *ℚ s),
      within_feasible M (moved t e (f *ℚ s)) c (point s) (λ k l. free_within M t e f s i h r far_enough.1 (all_within M t i n o) k (subst (λ z. k < z) (sym i.size) l)),
      below_if_not (λ q. <ℚ-not far_enough.2 (≤ℚ-by K (total M.columns (λ j. M.costs j *ℚ moved t e (f *ℚ s) j) +ℚ M.constant) (K -ℚ M.constant) (total M.columns (λ j. M.costs j *ℚ t.values j) +ℚ t.prices e *ℚ f *ℚ s)
          (ap (λ z. z +ℚ M.constant -ℚ K) (costs s)
          ∙ ring rational (total M.columns (λ j. M.costs j *ℚ t.values j) ∷ t.prices e ∷ f ∷ s ∷ M.constant ∷ K ∷ []) (v 0 :+ v 1 :* v 2 :* v 3 :+ v 4 :- v 5) (v 0 :+ v 1 :* v 2 :* v 3 :- (v 5 :- v 4)) refl) q)),
    )
  where
    point : (s : Number) → IsExtended M (moved t e (f *ℚ s))
    point s = (i.points (moved t e (f *ℚ s))).1 (moved_solves t e (f *ℚ s) i.split h i.values)

    costs : (s : Number) → total M.columns (λ j. M.costs j *ℚ moved t e (f *ℚ s) j) ≡ total M.columns (λ j. M.costs j *ℚ t.values j) +ℚ t.prices e *ℚ f *ℚ s
    costs s = sym (i.costs (moved t e (f *ℚ s)) (point s)) ∙ moved_costs t e (f *ℚ s) i.split h
        ∙ ap (λ z. z +ℚ t.prices e *ℚ (f *ℚ s)) (i.costs t.values ((i.points t.values).1 i.values))
        ∙ ring rational (total M.columns (λ j. M.costs j *ℚ t.values j) ∷ t.prices e ∷ f ∷ s ∷ []) (v 0 :+ v 1 :* (v 2 :* v 3)) (v 0 :+ v 1 :* v 2 :* v 3) refl
