-- A column that is put elsewhere: sums, ranges, points and reduced costs.
use Rattle.std.proofs.Common.{◌≡◌, ◌≢◌, ℕ, ◌<◌, pos, sym, refl, ap, ap₂, ◌∙◌, [], ◌∷◌, subst, Option, Some, None, false, IsTrue}
use Rattle.fractions.specs.Ring.{ring, v, num, ◌:+◌, ◌:-◌, ◌:*◌}
use Rattle.fractions.specs.Linear.{linear, fact}
use Rattle.fractions.specs.Number.{Number, rational, zero_ℚ, ◌+ℚ◌, ◌-ℚ◌, ◌*ℚ◌}
use Rattle.fractions.specs.Division.{◌/ℚ◌}
use Rattle.fractions.specs.Floor.{IsWhole}
use Rattle.fractions.specs.Total.{total, put}
use Rattle.fractions.specs.Ends.{AtLeast, AtMost, Between, less, minus_ends}
use Rattle.fractions.proofs.Totals.{put-same, put-other, at_or_off, total_same, total-zero, total-+, total-*, total-put, total-put_both, total-put_factor}
use Rattle.fractions.specs.Signs.{over-times}
use Rattle.fractions.proofs.EndLaws.{less-low, less-high}
use Rattle.lp_model.specs.declared.program.Sense.TheVariants.{Min}
use Rattle.lp_model.specs.Vectors.{Vector}
use Rattle.lp_model.specs.LinearProgram.{LinearProgram, value_at, cost_at, Feasible}
use Rattle.lp_model.specs.Optimality.{Continuous, reduced_cost}
use Rattle.lp_model.specs.Senses.{Sits}
use Rattle.lp_model.specs.Reductions.{Priced}
use Rattle.lp_theory.specs.Activities.{InBounds}
use Rattle.lp_theory.specs.Elsewhere.{products, substituted, IsColumnSingleton, column_put_into_row}
use Rattle.lp_theory.proofs.Carrying.{Carries}
use Rattle.lp_theory.proofs.Sitting.{carried}
use Rattle.lp_theory.proofs.GapSteps.{AllClear, gaps_moved, gaps_off, gaps_back}

-- ---- functions and ranges
pub put_back : (x : Vector) (j : ℕ) (b : Number) → x j ≡ b → put x j b ≡ x
put_back x j b e t k = at_or_off (λ k. put x j b k ≡ x k) j (put-same x j b ∙ sym e) (put-other x j b) k t

pub less_out : (l u : Option Number) (c w : Number) → Between (less l c) (less u c) w → Between l u (w +ℚ c)
less_out l u c w b = record { low = (less-low l c w).0 b.low; high = (less-high u c w).0 b.high }

pub less_in : (l u : Option Number) (c w : Number) → Between l u (w +ℚ c) → Between (less l c) (less u c) w
less_in l u c w b = record { low = (less-low l c w).1 b.low; high = (less-high u c w).1 b.high }

-- ---- sums
-- with one term that is not 0
pub one_term : (n : ℕ) (g : Vector) (j : ℕ) → j < n → ((p : ℕ) → p < n → p ≢ j → g p ≡ zero_ℚ) → total n g ≡ g j
one_term n g j l z =
    total_same n g (put (λ p. zero_ℚ) j (g j)) (at_or_off (λ p. p < n → g p ≡ put (λ p. zero_ℚ) j (g j) p) j (λ m. sym (put-same (λ p. zero_ℚ) j (g j))) (λ p e m. z p m e ∙ sym (put-other (λ p. zero_ℚ) j (g j) p e)))
    ∙ total-put n (λ p. zero_ℚ) j (g j) l
    ∙ ap (λ t. t -ℚ zero_ℚ +ℚ g j) (total-zero n (λ p. zero_ℚ) (λ p m. refl))
    ∙ ring rational (g j ∷ []) (num (pos 0) :- num (pos 0) :+ v 0) (v 0) refl

-- with two
pub two_terms : (n : ℕ) (g : Vector) (j k : ℕ) → j < n → k < n → j ≢ k → ((p : ℕ) → p < n → p ≢ j → p ≢ k → g p ≡ zero_ℚ) → total n g ≡ g j +ℚ g k
two_terms n g j k lj lk ne z =
    ring rational (total n g ∷ g j ∷ []) (v 0) (v 1 :+ (v 0 :- v 1 :+ num (pos 0))) refl
    ∙ ap (λ t. g j +ℚ t) (sym (total-put n g j zero_ℚ lj)
    ∙ one_term n (put g j zero_ℚ) k lk (λ p l nk. at_or_off (λ p. p < n → p ≢ k → put g j zero_ℚ p ≡ zero_ℚ) j (λ l nk. put-same g j zero_ℚ) (λ p nj l nk. put-other g j zero_ℚ p nj ∙ z p l nj nk) p l nk)
    ∙ put-other g j zero_ℚ k (λ m. ne (sym m)))

-- where e - q x_k stands for x_j
pub total-substituted : (n : ℕ) (f x : Vector) (j k : ℕ) (q e : Number) → j < n → k < n → j ≢ k → products n f (put x j (e -ℚ q *ℚ x k)) ≡ products n (substituted f j k q) x +ℚ f j *ℚ e
total-substituted n f x j k q e lj lk ne =
    let off : put f j zero_ℚ k ≡ f k = put-other f j zero_ℚ k (λ m. ne (sym m)) in
    total-put_both n f x j (e -ℚ q *ℚ x k) lj
    ∙ ring rational (total n (λ p. put f j zero_ℚ p *ℚ x p) ∷ f j ∷ e ∷ q ∷ x k ∷ f k ∷ []) (v 0 :+ v 1 :* (v 2 :- v 3 :* v 4)) (v 0 :+ ((v 5 :- v 1 :* v 3) :- v 5) :* v 4 :+ v 1 :* v 2) refl
    ∙ ap (λ c. total n (λ p. put f j zero_ℚ p *ℚ x p) +ℚ ((f k -ℚ f j *ℚ q) -ℚ c) *ℚ x k +ℚ f j *ℚ e) (sym off)
    ∙ ap (λ s. s +ℚ f j *ℚ e) (sym (total-put_factor n (put f j zero_ℚ) x k (f k -ℚ f j *ℚ q) lk))

-- ---- reduced costs
-- duals of a column that has no entry in row i are as with the dual 0 for the row
pub left_out : (n i : ℕ) (y f g : Vector) → f i ≡ zero_ℚ → ((m : ℕ) → m ≢ i → f m ≡ g m) → products n y f ≡ products n (put y i zero_ℚ) g
left_out n i y f g z h = total_same n (λ m. y m *ℚ f m) (λ m. put y i zero_ℚ m *ℚ g m) (λ m l. at_or_off (λ m. y m *ℚ f m ≡ put y i zero_ℚ m *ℚ g m) i
    (ap (λ c. y i *ℚ c) z ∙ ring rational (y i ∷ g i ∷ []) (v 0 :* num (pos 0)) (num (pos 0) :* v 1) refl ∙ ap (λ c. c *ℚ g i) (sym (put-same y i zero_ℚ)))
    (λ m n. ap₂ ◌*ℚ◌ (sym (put-other y i zero_ℚ m n)) (h m n)) m)

-- another dual for row i
pub reduced-put : (M : LinearProgram) (i : ℕ) (y : Vector) (t : Number) (p : ℕ) → i < M.rows → reduced_cost M (put y i t) p ≡ reduced_cost M (put y i zero_ℚ) p -ℚ M.coefficient i p *ℚ t
reduced-put M i y t p l =
    ap (λ s. M.costs p -ℚ s) (total-put_factor M.rows y (λ m. M.coefficient m p) i t l)
    ∙ ring rational (M.costs p ∷ total M.rows (λ m. y m *ℚ M.coefficient m p) ∷ y i ∷ t ∷ M.coefficient i p ∷ []) (v 0 :- (v 1 :+ (v 3 :- v 2) :* v 4)) (v 0 :- (v 1 :+ (num (pos 0) :- v 2) :* v 4) :- v 4 :* v 3) refl
    ∙ ap (λ s. M.costs p -ℚ s -ℚ M.coefficient i p *ℚ t) (sym (total-put_factor M.rows y (λ m. M.coefficient m p) i zero_ℚ l))

-- ---- a side less what a term can be
pub minus_low : (s g : Option Number) (y r : Number) → AtLeast s (r +ℚ y) → AtMost g y → AtLeast (minus_ends s g) r
minus_low None g y r h k = tt
minus_low (Some b) None y r h k = tt
minus_low (Some b) (Some c) y r h k = linear (b ∷ c ∷ y ∷ r ∷ []) (fact 1 (v 0) (v 3 :+ v 2) ∷ fact 1 (v 2) (v 1) ∷ []) 0 (v 0 :- v 1) (v 3) (h, (k, tt)) refl

pub minus_high : (s g : Option Number) (y r : Number) → AtMost s (r +ℚ y) → AtLeast g y → AtMost (minus_ends s g) r
minus_high None g y r h k = tt
minus_high (Some b) None y r h k = tt
minus_high (Some b) (Some c) y r h k = linear (b ∷ c ∷ y ∷ r ∷ []) (fact 1 (v 3 :+ v 2) (v 0) ∷ fact 1 (v 1) (v 2) ∷ []) 0 (v 3) (v 0 :- v 1) (h, (k, tt)) refl

-- ---- a column put into the row that holds it
module _ (M : LinearProgram) (j i : ℕ) (s : IsColumnSingleton M j i) where
  abbrev a : Number
  a = M.coefficient i j

  abbrev t : Number
  t = M.costs j /ℚ M.coefficient i j

  abbrev P : LinearProgram
  P = column_put_into_row M j i

  pub value_here : (x : Vector) (b : Number) → value_at M i (put x j b) ≡ a *ℚ b +ℚ value_at P i x
  value_here x b = total-put_both M.columns (M.coefficient i) x j b s.column ∙ ring rational (value_at P i x ∷ (a *ℚ b) ∷ []) (v 0 :+ v 1) (v 1 :+ v 0) refl

  pub value_there : (m : ℕ) (x : Vector) (b : Number) → m < M.rows → m ≢ i → value_at M m (put x j b) ≡ value_at P m x
  value_there m x b l n = total-put_both M.columns (M.coefficient m) x j b s.column
      ∙ ap (λ q. value_at P m x +ℚ q *ℚ b) (s.only m l n)
      ∙ ring rational (value_at P m x ∷ b ∷ []) (v 0 :+ num (pos 0) :* v 1) (v 0) refl

  -- the cost of a point is that in P and t times the row's value
  pub cost_by_row : (x : Vector) → cost_at M x ≡ cost_at P x +ℚ t *ℚ value_at M i x
  cost_by_row x = ap (λ q. q +ℚ M.constant)
      (total_same M.columns _ (λ k. P.costs k *ℚ x k +ℚ t *ℚ (M.coefficient i k *ℚ x k))
      (λ k l. at_or_off (λ k. M.costs k *ℚ x k ≡ P.costs k *ℚ x k +ℚ t *ℚ (M.coefficient i k *ℚ x k)) j
      (rw (put-same (λ k. M.costs k -ℚ t *ℚ M.coefficient i k)) (ap (λ c. c *ℚ x j) (sym (over-times a (M.costs j) s.entry)) ∙ ring rational (a ∷ t ∷ x j ∷ []) (v 0 :* v 1 :* v 2) (num (pos 0) :* v 2 :+ v 1 :* (v 0 :* v 2)) refl))
      (λ k n. rw (put-other (λ k. M.costs k -ℚ t *ℚ M.coefficient i k) j zero_ℚ k n) (ring rational (M.costs k ∷ t ∷ M.coefficient i k ∷ x k ∷ []) (v 0 :* v 3) ((v 0 :- v 1 :* v 2) :* v 3 :+ v 1 :* (v 2 :* v 3)) refl)) k)
      ∙ total-+ M.columns (λ k. P.costs k *ℚ x k) (λ k. t *ℚ (M.coefficient i k *ℚ x k))
      ∙ ap (λ q. total M.columns (λ k. P.costs k *ℚ x k) +ℚ q) (total-* M.columns t (λ k. M.coefficient i k *ℚ x k)))
      ∙ ring rational (total M.columns (λ k. P.costs k *ℚ x k) ∷ (t *ℚ value_at M i x) ∷ M.constant ∷ []) (v 0 :+ v 1 :+ v 2) (v 0 :+ v 2 :+ v 1) refl

  pub cost_of_others : (x : Vector) (b : Number) → cost_at P (put x j b) ≡ cost_at P x
  cost_of_others x b = ap (λ q. q +ℚ M.constant) (total_same M.columns _ _ (λ k l. at_or_off (λ k. P.costs k *ℚ put x j b k ≡ P.costs k *ℚ x k) j
      (rw (put-same (λ k. M.costs k -ℚ t *ℚ M.coefficient i k)) (ring rational (put x j b j ∷ x j ∷ []) (num (pos 0) :* v 0) (num (pos 0) :* v 1) refl))
      (λ k n. ap (λ q. P.costs k *ℚ q) (put-other x j b k n)) k))

  -- ---- points
  pub point_back : (x : Vector) (b : Number) → ((m : ℕ) → m ≢ i → m < M.rows → Between (M.lower_side m) (M.upper_side m) (value_at P m x)) → InBounds P x
      → ((k : ℕ) → k < M.columns → IsTrue (P.whole k) → IsWhole (x k)) → AllClear P x → Between (M.lower_bound j) (M.upper_bound j) b → Between (M.lower_side i) (M.upper_side i) (a *ℚ b +ℚ value_at P i x) → Feasible M (put x j b)
  point_back x b rows columns whole gaps here row = record {
    rows = at_or_off (λ m. m < M.rows → Between (M.lower_side m) (M.upper_side m) (value_at M m (put x j b))) i
        (λ l. subst (Between (M.lower_side i) (M.upper_side i)) (sym (value_here x b)) row)
        (λ m n l. subst (Between (M.lower_side m) (M.upper_side m)) (sym (value_there m x b l n)) (rows m n l));
    columns = at_or_off (λ k. k < M.columns → Between (M.lower_bound k) (M.upper_bound k) (put x j b k)) j
        (λ l. subst (Between (M.lower_bound j) (M.upper_bound j)) (sym (put-same x j b)) here)
        (λ k n l. subst (Between (M.lower_bound k) (M.upper_bound k)) (sym (put-other x j b k n)) (rw (← put-other M.lower_bound j None k n, ← put-other M.upper_bound j None k n) (columns k l)));
    whole = at_or_off (λ k. k < M.columns → IsTrue (M.whole k) → IsWhole (put x j b k)) j
        (λ l w. absurd (let e = s.continuous in cc))
        (λ k n l w. subst IsWhole (sym (put-other x j b k n)) (whole k l (put-other M.whole j false k n ∙ w)));
    gaps = gaps_moved M j x b s.solid (gaps_back M j x s.solid gaps);
  }

  pub rows_of_others : (w : Vector) → Feasible M w → (m : ℕ) → m ≢ i → m < M.rows → Between (M.lower_side m) (M.upper_side m) (value_at P m w)
  rows_of_others w h m n l = subst (Between (M.lower_side m) (M.upper_side m)) (ap (value_at M m) (sym (put_back w j (w j) refl)) ∙ value_there m w (w j) l n) (h.rows m l)

  pub bounds_of_others : (w : Vector) → Feasible M w → InBounds P w
  bounds_of_others w h = at_or_off (λ k. k < M.columns → Between (P.lower_bound k) (P.upper_bound k) (w k)) j
      (λ l. rw (put-same M.lower_bound, put-same M.upper_bound) (record { low = tt; high = tt }))
      (λ k n l. rw (put-other M.lower_bound j None k n, put-other M.upper_bound j None k n) (h.columns k l))

  pub whole_others : (w : Vector) → Feasible M w → (k : ℕ) → k < M.columns → IsTrue (P.whole k) → IsWhole (w k)
  whole_others w h = at_or_off (λ k. k < M.columns → IsTrue (P.whole k) → IsWhole (w k)) j
      (λ l e. absurd (let f = put-same M.whole j false in cc))
      (λ k n l e. h.whole k l (sym (put-other M.whole j false k n) ∙ e))

  pub gaps_of_others : (w : Vector) → Feasible M w → AllClear P w
  gaps_of_others w h = gaps_off M j w h.gaps

  -- ---- pairs
  pub reduced_here : (y : Vector) → reduced_cost M y j ≡ M.costs j -ℚ y i *ℚ a
  reduced_here y = ap (λ q. M.costs j -ℚ q) (one_term M.rows (λ m. y m *ℚ M.coefficient m j) i s.row (λ m l n. ap (λ c. y m *ℚ c) (s.only m l n) ∙ ring rational (y m ∷ []) (v 0 :* num (pos 0)) (num (pos 0)) refl))

  -- a dual e of the row in P is e + t in M
  pub reduced_there : (y : Vector) (e : Number) (k : ℕ) → k ≢ j → reduced_cost P (put y i e) k ≡ reduced_cost M (put y i (e +ℚ t)) k
  reduced_there y e k n =
      ap₂ (λ f g. f -ℚ g) (put-other (λ k. M.costs k -ℚ t *ℚ M.coefficient i k) j zero_ℚ k n) (total_same M.rows _ _ (λ m l. ap (λ c. put y i e m *ℚ c) (put-other (M.coefficient m) j zero_ℚ k n)))
      ∙ ring rational (M.costs k ∷ t ∷ M.coefficient i k ∷ total M.rows (λ m. put y i e m *ℚ M.coefficient m k) ∷ []) ((v 0 :- v 1 :* v 2) :- v 3) ((v 0 :- v 3) :- v 2 :* v 1) refl
      ∙ ap (λ c. c -ℚ M.coefficient i k *ℚ t) (reduced-put M i y e k s.row)
      ∙ ring rational (reduced_cost M (put y i zero_ℚ) k ∷ M.coefficient i k ∷ e ∷ t ∷ []) (v 0 :- v 1 :* v 2 :- v 1 :* v 3) (v 0 :- v 1 :* (v 2 :+ v 3)) refl
      ∙ sym (reduced-put M i y (e +ℚ t) k s.row)

  pub continuous_back : Continuous P → Continuous M
  continuous_back c = at_or_off (λ k. k < M.columns → (M.whole k ≡ false) × (M.gap k ≡ None)) j (λ l. (s.continuous, s.solid))
      (λ k n l. (sym (put-other M.whole j false k n) ∙ (c k l).0, sym (put-other M.gap j None k n) ∙ (c k l).1))

  pub pair_back : (p : Priced) (b e z : Number) → Continuous P → Feasible M (put p.x j b)
      → ((k : ℕ) → k ≢ j → k < M.columns → p.z k ≡ reduced_cost M (put p.y i e) k) → z ≡ reduced_cost M (put p.y i e) j
      → ((m : ℕ) → m ≢ i → m < M.rows → Sits Min (M.lower_side m) (M.upper_side m) (value_at P m p.x) (p.y m))
      → ((k : ℕ) → k < M.columns → Sits Min (P.lower_bound k) (P.upper_bound k) (p.x k) (p.z k))
      → Sits Min (M.lower_side i) (M.upper_side i) (a *ℚ b +ℚ value_at P i p.x) e → Sits Min (M.lower_bound j) (M.upper_bound j) b z
      → Carries M (record { x = put p.x j b; y = put p.y i e; z = put p.z j z })
  pair_back p b e z c f others first rows columns row here = carried M (record { x = put p.x j b; y = put p.y i e; z = put p.z j z }) (continuous_back c) f
      (at_or_off (λ k. k < M.columns → put p.z j z k ≡ reduced_cost M (put p.y i e) k) j
      (λ l. put-same p.z j z ∙ first)
      (λ k n l. put-other p.z j z k n ∙ others k n l))
      (at_or_off (λ m. m < M.rows → Sits Min (M.lower_side m) (M.upper_side m) (value_at M m (put p.x j b)) (put p.y i e m)) i
      (λ l. rw (put-same p.y, value_here p.x b) row)
      (λ m n l. rw (put-other p.y i e m n, value_there m p.x b l n) (rows m n l)))
      (at_or_off (λ k. k < M.columns → Sits Min (M.lower_bound k) (M.upper_bound k) (put p.x j b k) (put p.z j z k)) j
      (λ l. rw (put-same p.x, put-same p.z) here)
      (λ k n l. rw (put-other p.x j b k n, put-other p.z j z k n, ← put-other M.lower_bound j None k n, ← put-other M.upper_bound j None k n) (columns k l)))
