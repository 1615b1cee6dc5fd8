-- The slack column singleton: points and pairs.
use Rattle.std.proofs.Common.{◌≡◌, ◌≢◌, ℕ, ◌<◌, pos, sym, refl, ap, ap₂, ◌∙◌, [], ◌∷◌, inl, inr, subst, Option, Some, None, Bool, true, false}
use Rattle.std.specs.Prelude.{if◌then◌else◌}
use Rattle.fractions.specs.Ring.{ring, v, num, ◌:+◌, ◌:-◌, ◌:*◌, inv}
use Rattle.fractions.specs.Linear.{linear, fact}
use Rattle.fractions.specs.Number.{Number, rational, zero_ℚ, neg_ℚ, ◌+ℚ◌, ◌-ℚ◌, ◌*ℚ◌}
use Rattle.fractions.specs.Order.{◌≤ℚ◌, ◌<ℚ◌, ≤ℚ_antisym, <ℚ-≤ℚ}
use Rattle.fractions.specs.Compare.{lt_ℚ, eq_ℚ}
use Rattle.fractions.specs.Division.{inv_ℚ, ◌/ℚ◌}
use Rattle.fractions.specs.Total.{put}
use Rattle.fractions.specs.Ends.{AtLeast, AtMost, Between, less, minus_ends}
use Rattle.fractions.specs.Comparisons.{eq_ℚ-is}
use Rattle.fractions.proofs.Totals.{put-same, put-other, at_or_off}
use Rattle.fractions.specs.Signs.{over-times}
use Rattle.lp_model.specs.declared.program.Sense.{Sense}
use Rattle.lp_model.specs.declared.program.Sense.TheVariants.{Min}
use Rattle.lp_model.specs.Vectors.{Vector}
use Rattle.lp_model.specs.LinearProgram.{LinearProgram, value_at, cost_at, Feasible}
use Rattle.lp_model.specs.Optimality.{reduced_cost}
use Rattle.lp_model.specs.Senses.{Sits}
use Rattle.lp_model.specs.Reductions.{Reduces, Priced, ReducesPairs}
use Rattle.lp_theory.specs.Activities.{least_term, greatest_term}
use Rattle.lp_theory.specs.Elsewhere.{column_put_into_row}
use Rattle.lp_theory.specs.Nearest.{InOrder}
use Rattle.lp_theory.proofs.ActivityLaws.{lt_true, least_term-low, greatest_term-high}
use Rattle.lp_theory.proofs.Carrying.{Carries, pairs_of}
use Rattle.lp_theory.proofs.Elsewhere.{put_back, less_out, minus_low, minus_high, value_here, cost_by_row, cost_of_others, point_back, rows_of_others, bounds_of_others, whole_others, gaps_of_others, reduced_here, reduced_there, pair_back}
use Rattle.lp_theory.proofs.MetEndLaws.{below_zero}
use Rattle.lp_theory.proofs.Nearest.{near_in_both}
use Rattle.lp_theory.proofs.Pairs.{some_inj, term_tight, undo_row, row_pairs}
use Rattle.lp_theory.proofs.Sitting.{pos_up, pos_down, neg_up, neg_down, pinned_sits, row_sits, column_sits}
use Rattle.lp_theory.proofs.Steps.{no_worse_same, compose, redundant_row, plus_zero}
use Rattle.lp_substitutions.specs.SlackColumnSingleton.{IsSlackColumnSingleton, moved_lower, moved_upper, slack_column_singleton_deleted, IsRowLeftFree, slack_row_deleted, equation_offset, slack_column_singleton_offset, slack_value, slack_column_singleton_point, slack_kept_pair, slack_dropped_pair}

-- ---- a side against the greatest and the least of the slack's term
under_greatest : (s g : Option Number) (r : Number) → AtLeast (minus_ends s g) r → InOrder (less s r) g
under_greatest None g r h = tt
under_greatest (Some b) None r h = tt
under_greatest (Some b) (Some c) r h = linear (b ∷ c ∷ r ∷ []) (fact 1 (v 0 :- v 1) (v 2) ∷ []) 0 (v 0 :- v 2) (v 1) (h, tt) refl

above_least : (g s : Option Number) (r : Number) → AtMost (minus_ends s g) r → InOrder g (less s r)
above_least None s r h = tt
above_least (Some c) None r h = tt
above_least (Some c) (Some b) r h = linear (b ∷ c ∷ r ∷ []) (fact 1 (v 2) (v 0 :- v 1) ∷ []) 0 (v 1) (v 0 :- v 2) (h, tt) refl

less_in_order : (s t : Option Number) (r : Number) → InOrder s t → InOrder (less s r) (less t r)
less_in_order None t r h = tt
less_in_order (Some b) None r h = tt
less_in_order (Some b) (Some c) r h = linear (b ∷ c ∷ r ∷ []) (fact 1 (v 0) (v 1) ∷ []) 0 (v 0 :- v 2) (v 1 :- v 2) (h, tt) refl

-- ---- an end of a sum of two ranges is the sum of their ends
minus_some : (s g : Option Number) (r : Number) → minus_ends s g ≡ Some r → (b : Number) × (c : Number) × (s ≡ Some b) × (g ≡ Some c) × (b -ℚ c ≡ r)
minus_some None g r e = cc
minus_some (Some b) None r e = cc
minus_some (Some b) (Some c) r e = (b, c, refl, refl, some_inj e)

whole_side : (b c y r : Number) → b -ℚ c ≡ r → c ≡ y → b ≡ y +ℚ r
whole_side b c y r e f = ring rational (b ∷ c ∷ []) (v 0) (v 1 :+ (v 0 :- v 1)) refl ∙ ap₂ ◌+ℚ◌ f e

low_split : (s g : Option Number) (y r : Number) → minus_ends s g ≡ Some r → AtLeast s (y +ℚ r) → AtMost g y → (s ≡ Some (y +ℚ r)) × (g ≡ Some y)
low_split s g y r e h k =
    let m = minus_some s g r e in
    let low : m.0 ≤ℚ (y +ℚ (m.0 -ℚ m.1)) = subst (λ c. m.0 ≤ℚ (y +ℚ c)) (sym m.4) (subst (λ o. AtLeast o (y +ℚ r)) m.2 h) in
    let is : m.1 ≡ y = ≤ℚ_antisym (linear (m.0 ∷ m.1 ∷ y ∷ []) (fact 1 (v 0) (v 2 :+ (v 0 :- v 1)) ∷ []) 0 (v 1) (v 2) (low, tt) refl) (subst (λ o. AtMost o y) m.3 k) in
    (m.2 ∙ ap Some (whole_side m.0 m.1 y r m.4 is), m.3 ∙ ap Some is)

high_split : (s g : Option Number) (y r : Number) → minus_ends s g ≡ Some r → AtMost s (y +ℚ r) → AtLeast g y → (s ≡ Some (y +ℚ r)) × (g ≡ Some y)
high_split s g y r e h k =
    let m = minus_some s g r e in
    let high : (y +ℚ (m.0 -ℚ m.1)) ≤ℚ m.0 = subst (λ c. (y +ℚ c) ≤ℚ m.0) (sym m.4) (subst (λ o. AtMost o (y +ℚ r)) m.2 h) in
    let is : m.1 ≡ y = ≤ℚ_antisym (subst (λ o. AtLeast o y) m.3 k) (linear (m.0 ∷ m.1 ∷ y ∷ []) (fact 1 (v 2 :+ (v 0 :- v 1)) (v 0) ∷ []) 0 (v 2) (v 1) (high, tt) refl) in
    (m.2 ∙ ap Some (whole_side m.0 m.1 y r m.4 is), m.3 ∙ ap Some is)

-- a multiplier m that sits at a moved side sits at the old one, and -a m at a bound of the slack
split_sits : (a x r m : Number) (l u L U : Option Number) → a ≢ zero_ℚ → Between l u x → Between L U (a *ℚ x +ℚ r) → Sits Min (minus_ends L (greatest_term a l u)) (minus_ends U (least_term a l u)) r m
    → Sits Min L U (a *ℚ x +ℚ r) m × Sits Min l u x (neg_ℚ (a *ℚ m))
split_sits a x r m l u L U n b c s = ((λ h. (low h).0, λ h. (high h).0), by (lt_ℚ zero_ℚ a) refl)
  where
    low : zero_ℚ <ℚ m → (L ≡ Some (a *ℚ x +ℚ r)) × (zero_ℚ <ℚ a → u ≡ Some x) × (a <ℚ zero_ℚ → l ≡ Some x)
    low h = let f = low_split L (greatest_term a l u) (a *ℚ x) r (s.0 h) c.low (greatest_term-high a l u x b) in let t = term_tight a x u l f.1 in (f.0, t.0, t.1)

    high : m <ℚ zero_ℚ → (U ≡ Some (a *ℚ x +ℚ r)) × (zero_ℚ <ℚ a → l ≡ Some x) × (a <ℚ zero_ℚ → u ≡ Some x)
    high h = let f = high_split U (least_term a l u) (a *ℚ x) r (s.1 h) c.high (least_term-low a l u x b) in let t = term_tight a x l u f.1 in (f.0, t.0, t.1)

    by : (q : Bool) → lt_ℚ zero_ℚ a ≡ q → Sits Min l u x (neg_ℚ (a *ℚ m))
    by true e = let p = lt_true zero_ℚ a e in ((λ k. (high (pos_up a m (<ℚ-≤ℚ p) k)).1 p), λ k. (low (pos_down a m (<ℚ-≤ℚ p) k)).1 p)
    by false e = let p = below_zero a e n in ((λ k. (low (neg_up a m (<ℚ-≤ℚ p) k)).2 p), λ k. (high (neg_down a m (<ℚ-≤ℚ p) k)).2 p)

-- ---- the offset
no_offset : (t : Number) (L U : Option Number) → t ≡ zero_ℚ → equation_offset t L U ≡ zero_ℚ
no_offset t None U e = refl
no_offset t (Some l) None e = refl
no_offset t (Some l) (Some u) e = (elim (eq_ℚ l u) as (λ q. (if q then t *ℚ l else zero_ℚ) ≡ zero_ℚ) [ true ↦ ap (λ c. c *ℚ l) e ∙ ring rational (l ∷ []) (num (pos 0) :* v 0) (num (pos 0)) refl | false ↦ refl ])

whole_offset : (t r : Number) (L U : Option Number) → L ≡ Some r → U ≡ Some r → equation_offset t L U ≡ t *ℚ r
whole_offset t r L U e f = ap₂ (equation_offset t) e f ∙ ap (λ q. if q then t *ℚ r else zero_ℚ) ((eq_ℚ-is r r).1 refl)

module _ (M : LinearProgram) (j i : ℕ) (d : IsSlackColumnSingleton M j i) where
  abbrev a : Number
  a = M.coefficient i j

  abbrev t : Number
  t = M.costs j /ℚ M.coefficient i j

  abbrev P : LinearProgram
  P = column_put_into_row M j i

  abbrev R : LinearProgram
  R = slack_column_singleton_deleted M j i

  abbrev b : Vector → Number
  b x = slack_value a (M.lower_side i) (M.upper_side i) (M.lower_bound j) (M.upper_bound j) (value_at P i x)

  -- ---- points
  moved_sides : (x : Vector) → Feasible R x → Between (moved_lower M j i) (moved_upper M j i) (value_at P i x)
  moved_sides x h = rw (put-same M.lower_side, put-same M.upper_side) at (h.rows i d.singleton.row)

  pub slack_between : (x : Vector) → Feasible R x → Between (M.lower_bound j) (M.upper_bound j) (b x) × Between (M.lower_side i) (M.upper_side i) (a *ℚ b x +ℚ value_at P i x)
  slack_between x h =
      let s = moved_sides x h in
      let r = value_at P i x in
      let f = near_in_both a (M.lower_bound j) (M.upper_bound j) (less (M.lower_side i) r) (less (M.upper_side i) r) d.singleton.entry d.bounds (less_in_order (M.lower_side i) (M.upper_side i) r d.sides)
      (under_greatest (M.lower_side i) (greatest_term a (M.lower_bound j) (M.upper_bound j)) r s.low) (above_least (least_term a (M.lower_bound j) (M.upper_bound j)) (M.upper_side i) r s.high) in
      (f.0, less_out (M.lower_side i) (M.upper_side i) r (a *ℚ b x) f.1)

  rows_there : (x : Vector) → Feasible R x → (m : ℕ) → m ≢ i → m < M.rows → Between (M.lower_side m) (M.upper_side m) (value_at P m x)
  rows_there x h m n l = rw (← put-other M.lower_side i (moved_lower M j i) m n, ← put-other M.upper_side i (moved_upper M j i) m n) (h.rows m l)

  pub lifted : (x : Vector) → Feasible R x → Feasible M (put x j (b x))
  lifted x h = point_back M j i d.singleton x (b x) (rows_there x h) h.columns h.whole h.gaps (slack_between x h).0 (slack_between x h).1

  kept : (w : Vector) → Feasible M w → Feasible R w
  kept w h =
      let bj = h.columns j d.singleton.column in
      let row : Between (M.lower_side i) (M.upper_side i) (value_at P i w +ℚ a *ℚ w j) = subst (Between (M.lower_side i) (M.upper_side i))
      (ap (value_at M i) (sym (put_back w j (w j) refl)) ∙ value_here M j i d.singleton w (w j) ∙ ring rational ((a *ℚ w j) ∷ value_at P i w ∷ []) (v 0 :+ v 1) (v 1 :+ v 0) refl) (h.rows i d.singleton.row) in
      record {
        rows = at_or_off (λ m. m < M.rows → Between (R.lower_side m) (R.upper_side m) (value_at P m w)) i
            (λ l. rw (put-same M.lower_side, put-same M.upper_side) (record {
              low = minus_low (M.lower_side i) (greatest_term a (M.lower_bound j) (M.upper_bound j)) (a *ℚ w j) (value_at P i w) row.low (greatest_term-high a (M.lower_bound j) (M.upper_bound j) (w j) bj);
              high = minus_high (M.upper_side i) (least_term a (M.lower_bound j) (M.upper_bound j)) (a *ℚ w j) (value_at P i w) row.high (least_term-low a (M.lower_bound j) (M.upper_bound j) (w j) bj);
            }))
            (λ m n l. rw (put-other M.lower_side i (moved_lower M j i) m n, put-other M.upper_side i (moved_upper M j i) m n) (rows_of_others M j i d.singleton w h m n l));
        columns = bounds_of_others M j i d.singleton w h;
        whole = whole_others M j i d.singleton w h;
        gaps = gaps_of_others M j i d.singleton w h;
      }

  no_cost : M.costs j ≡ zero_ℚ → t ≡ zero_ℚ
  no_cost e = ap (λ c. c *ℚ inv_ℚ a) e ∙ ring rational (inv_ℚ a ∷ []) (num (pos 0) :* v 0) (num (pos 0)) refl

  value_of_equation : (r : Number) (x : Vector) → M.lower_side i ≡ Some r → M.upper_side i ≡ Some r → Feasible M x → value_at M i x ≡ r
  value_of_equation r x e f h = ≤ℚ_antisym (subst (λ o. AtMost o (value_at M i x)) f (h.rows i d.singleton.row).high) (subst (λ o. AtLeast o (value_at M i x)) e (h.rows i d.singleton.row).low)

  -- t times the row's value is the offset at each feasible point
  offset_is : (x : Vector) → Feasible M x → t *ℚ value_at M i x ≡ slack_column_singleton_offset M j i
  offset_is x h = elim d.equation_or_free [
    | inl e ↦ ap (λ c. t *ℚ c) (value_of_equation e.0 x e.1 e.2 h) ∙ sym (whole_offset t e.0 (M.lower_side i) (M.upper_side i) e.1 e.2)
    | inr e ↦ ap (λ c. c *ℚ value_at M i x) (no_cost e) ∙ ring rational (value_at M i x ∷ []) (num (pos 0) :* v 0) (num (pos 0)) refl ∙ sym (no_offset t (M.lower_side i) (M.upper_side i) (no_cost e))
  ]

  pub slack_kept_reduces : (s : Sense) → Reduces s M R (slack_column_singleton_point M j i) (slack_column_singleton_offset M j i)
  slack_kept_reduces s = record {
    lifts = lifted;
    costs = λ x h. cost_by_row M j i d.singleton (put x j (b x)) ∙ ap₂ ◌+ℚ◌ (cost_of_others M j i d.singleton x (b x)) (offset_is (put x j (b x)) (lifted x h));
    keeps = λ w h. (w, kept w h, no_worse_same s _ _ (ap (λ c. cost_at P w +ℚ c) (sym (offset_is w h)) ∙ sym (cost_by_row M j i d.singleton w)));
  }

  -- ---- pairs
  reduced_first : (y : Vector) → neg_ℚ (a *ℚ y i) ≡ reduced_cost M (put y i (y i +ℚ t)) j
  reduced_first y = ring rational (a ∷ y i ∷ M.costs j ∷ []) (inv (v 0 :* v 1)) (v 2 :- (v 1 :* v 0 :+ v 2)) refl
      ∙ ap (λ c. M.costs j -ℚ (y i *ℚ a +ℚ c)) (sym (over-times a (M.costs j) d.singleton.entry))
      ∙ ring rational (a ∷ y i ∷ t ∷ M.costs j ∷ []) (v 3 :- (v 1 :* v 0 :+ v 0 :* v 2)) (v 3 :- (v 1 :+ v 2) :* v 0) refl
      ∙ ap (λ c. M.costs j -ℚ c *ℚ a) (sym (put-same y i (y i +ℚ t)))
      ∙ sym (reduced_here M j i d.singleton (put y i (y i +ℚ t)))

  reduced_others : (y : Vector) (k : ℕ) → k ≢ j → reduced_cost R y k ≡ reduced_cost M (put y i (y i +ℚ t)) k
  reduced_others y k n = ap (λ (u : Vector). reduced_cost P u k) (sym (put_back y i (y i) refl)) ∙ reduced_there M j i d.singleton y (y i) k n

  -- the dual of the row with t: of an equation any, else t is 0
  row_with_t : (p : Priced) → Carries R p → Sits Min (M.lower_side i) (M.upper_side i) (a *ℚ b p.x +ℚ value_at P i p.x) (p.y i) → Sits Min (M.lower_side i) (M.upper_side i) (a *ℚ b p.x +ℚ value_at P i p.x) (p.y i +ℚ t)
  row_with_t p h s = elim d.equation_or_free [
    | inl e ↦ pinned_sits (M.lower_side i) (M.upper_side i) e.0 _ (p.y i +ℚ t) e.1 e.2 (sym (value_here M j i d.singleton p.x (b p.x)) ∙ value_of_equation e.0 (put p.x j (b p.x)) e.1 e.2 (lifted p.x h.feasible))
    | inr e ↦ subst (Sits Min (M.lower_side i) (M.upper_side i) (a *ℚ b p.x +ℚ value_at P i p.x)) (plus_zero (p.y i) ∙ ap (λ c. p.y i +ℚ c) (sym (no_cost e))) s
  ]

  pub undone_kept : (p : Priced) → Carries R p → Carries M (slack_kept_pair M j i p)
  undone_kept p h =
      let f = slack_between p.x h.feasible in
      let row : Sits Min (moved_lower M j i) (moved_upper M j i) (value_at P i p.x) (p.y i) = rw (put-same M.lower_side, put-same M.upper_side) at (row_sits R p h i d.singleton.row) in
      let s = split_sits a (b p.x) (value_at P i p.x) (p.y i) (M.lower_bound j) (M.upper_bound j) (M.lower_side i) (M.upper_side i) d.singleton.entry f.0 f.1 row in
      pair_back M j i d.singleton p (b p.x) (p.y i +ℚ t) (neg_ℚ (a *ℚ p.y i)) h.continuous (lifted p.x h.feasible)
      (λ k n l. h.left k l ∙ reduced_others p.y k n)
      (reduced_first p.y)
      (λ m n l. rw (put-other M.lower_side i (moved_lower M j i) m n, put-other M.upper_side i (moved_upper M j i) m n) at (row_sits R p h m l))
      (column_sits R p h)
      (row_with_t p h s.0)
      s.1

  pub slack_kept_pairs : ReducesPairs Min M R (slack_kept_pair M j i)
  slack_kept_pairs = pairs_of M R (slack_kept_pair M j i) (record { carries = undone_kept })

-- ---- the row deleted too
module _ (M : LinearProgram) (j i : ℕ) (d : IsRowLeftFree M j i) where
  abbrev K : LinearProgram
  K = slack_column_singleton_deleted M j i

  row_redundant : (s : Sense) → Reduces s K (slack_row_deleted M j i) (λ x. x) zero_ℚ
  row_redundant s = redundant_row s K i (λ x h. rw (put-same M.lower_side, put-same M.upper_side, d.lower, d.upper) (record { low = tt; high = tt }))

  pub slack_dropped_reduces : (s : Sense) → Reduces s M (slack_row_deleted M j i) (slack_column_singleton_point M j i) (slack_column_singleton_offset M j i)
  slack_dropped_reduces s = subst (Reduces s M (slack_row_deleted M j i) (slack_column_singleton_point M j i)) (sym (plus_zero (slack_column_singleton_offset M j i)))
      (compose s M K (slack_row_deleted M j i) (slack_column_singleton_point M j i) (λ x. x) (slack_column_singleton_offset M j i) zero_ℚ (slack_kept_reduces M j i d.slack s) (row_redundant s))

  undone_dropped : (p : Priced) → Carries (slack_row_deleted M j i) p → Carries M (slack_dropped_pair M j i p)
  undone_dropped p h = subst (Carries M) same (undone_kept M j i d.slack (undo_row i p) ((row_pairs K i (row_redundant Min).lifts).carries p h))
    where
      same : slack_kept_pair M j i (undo_row i p) ≡ slack_dropped_pair M j i p
      same = ap₂ (λ (y z : Vector). record { x = slack_column_singleton_point M j i p.x; y = y; z = z }) dual reduced
        where
          none : put p.y i zero_ℚ i ≡ zero_ℚ
          none = put-same p.y i zero_ℚ

          dual : put (put p.y i zero_ℚ) i (put p.y i zero_ℚ i +ℚ M.costs j /ℚ M.coefficient i j) ≡ put p.y i (M.costs j /ℚ M.coefficient i j)
          dual q m = at_or_off (λ m. put (put p.y i zero_ℚ) i (put p.y i zero_ℚ i +ℚ M.costs j /ℚ M.coefficient i j) m ≡ put p.y i (M.costs j /ℚ M.coefficient i j) m) i
              (put-same (put p.y i zero_ℚ) i _ ∙ ap (λ c. c +ℚ M.costs j /ℚ M.coefficient i j) none ∙ ring rational ((M.costs j /ℚ M.coefficient i j) ∷ []) (num (pos 0) :+ v 0) (v 0) refl ∙ sym (put-same p.y i (M.costs j /ℚ M.coefficient i j)))
              (λ m n. put-other (put p.y i zero_ℚ) i _ m n ∙ put-other p.y i zero_ℚ m n ∙ sym (put-other p.y i (M.costs j /ℚ M.coefficient i j) m n)) m q

          reduced : put p.z j (neg_ℚ (M.coefficient i j *ℚ put p.y i zero_ℚ i)) ≡ put p.z j zero_ℚ
          reduced = ap (put p.z j) (ap (λ c. neg_ℚ (M.coefficient i j *ℚ c)) none ∙ ring rational (M.coefficient i j ∷ []) (inv (v 0 :* num (pos 0))) (num (pos 0)) refl)

  pub slack_dropped_pairs : ReducesPairs Min M (slack_row_deleted M j i) (slack_dropped_pair M j i)
  slack_dropped_pairs = pairs_of M (slack_row_deleted M j i) (slack_dropped_pair M j i) (record { carries = undone_dropped })
