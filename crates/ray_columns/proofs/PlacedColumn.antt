-- K10, K11, K17: a column that was fixed at a bound without a record of a number.
use Rattle.std.proofs.Common.{◌≡◌, ℕ, ◌<◌, inl, inr, pos, sym, refl, ap, ap₂, ◌∙◌, [], ◌∷◌, subst, Option, Some, None, Bool, true, false}
use Rattle.std.specs.Prelude.{if◌then◌else◌}
use Rattle.fractions.specs.Ring.{ring, v, num, ◌:+◌, ◌:-◌, ◌:*◌, inv}
use Rattle.fractions.specs.Number.{Number, rational, zero_ℚ, ◌-ℚ◌, ◌*ℚ◌, neg_ℚ}
use Rattle.fractions.specs.Order.{◌≤ℚ◌, ≤ℚ_refl, ≤ℚ_antisym, ≤ℚ_trans, ≤ℚ_cases, <ℚ-≤ℚ, <ℚ-not, ≤ℚ-by, ≤ℚ-*ℚ}
use Rattle.fractions.specs.Compare.{lt_ℚ}
use Rattle.lp_theory.proofs.ActivityLaws.{lt_true, lt_false}
use Rattle.fractions.specs.Linear.{linear, fact}
use Rattle.fractions.specs.Ends.{same_end}
use Rattle.fractions.specs.Total.{total, put}
use Rattle.fractions.proofs.Totals.{put-same, put-other, at_or_off, total-zero, total-≤}
use Rattle.fractions.specs.Signs.{≤ℚ-same, *ℚ_pos, *ℚ_pos_neg}
use Rattle.fractions.proofs.EndLaws.{same_end-is}
use Rattle.lp_model.specs.LinearProgram.{LinearProgram}
use Rattle.lp_columns.specs.BestPlace.{column_fixed_at}
use Rattle.lp_columns.specs.Locks.{HasNoDownLock, HasNoUpLock}
use Rattle.lp_columns.specs.DualFixing.{IsDualFixing, GoesDown, GoesUp, column_dual_fixed}
use Rattle.lp_columns.specs.DominatedColumn.{IsDominatedColumn, dominated_column_fixed}
use Rattle.lp_columns.specs.EmptyColumn.{IsEmptyColumn, empty_column_fixed}
use Rattle.lp_rays.specs.Ray.{Weights, IsWeight, worth, net_at, IsWeighting, StepsBack}
use Rattle.lp_rays.specs.Steps.{ray_kept_lower, ray_kept_upper, ray_fixed, ray_settled, ray_empty_column}
use Rattle.lp_rays.proofs.Weighing.{worth_none, weight_pos, no_weight}
use Rattle.lp_rays.proofs.Handing.{negative_pos'}
use Rattle.lp_rays.proofs.Moving.{Moved, steps_of, ColumnMoved, column_same, bounds_move}

-- the sum of a column's entries, each with its row's net weight
abbrev entries_of : LinearProgram → Weights → ℕ → Number
entries_of M w j = total M.rows (λ i. (w.s i -ℚ w.t i) *ℚ M.coefficient i j)

-- what a column's own weights leave is minus that sum
left_by_entries : (M : LinearProgram) (w : Weights) (j : ℕ) → net_at M w j ≡ zero_ℚ → w.p j -ℚ w.q j ≡ neg_ℚ (entries_of M w j)
left_by_entries M w j e = ring rational (entries_of M w j ∷ w.p j ∷ w.q j ∷ []) (v 1 :- v 2) (((v 0 :+ v 1) :- v 2) :- v 0) refl ∙ ap (λ c. c -ℚ entries_of M w j) e ∙ ring rational (entries_of M w j ∷ []) (num (pos 0) :- v 0) (inv (v 0)) refl

total_neg : (n : ℕ) (f : ℕ → Number) → ((k : ℕ) → k < n → f k ≤ℚ zero_ℚ) → total n f ≤ℚ zero_ℚ
total_neg n f h = subst (λ c. total n f ≤ℚ c) (total-zero n (λ k. zero_ℚ) (λ k l. refl)) (total-≤ n f (λ k. zero_ℚ) h)

total_pos : (n : ℕ) (f : ℕ → Number) → ((k : ℕ) → k < n → zero_ℚ ≤ℚ f k) → zero_ℚ ≤ℚ total n f
total_pos n f h = subst (λ c. c ≤ℚ total n f) (total-zero n (λ k. zero_ℚ) (λ k l. refl)) (total-≤ n (λ k. zero_ℚ) f h)

-- weights of infinite sides
infinite : (o : Option Number) (w : Number) → o ≡ None → IsWeight o w → w ≡ zero_ℚ
infinite o w e h = subst (λ p. IsWeight p w) e h

-- ---- the signs of the sums
module _ (M : LinearProgram) (w : Weights) (rows : (i : ℕ) → i < M.rows → IsWeight (M.lower_side i) (w.s i) × IsWeight (M.upper_side i) (w.t i)) where
  only_t : (i : ℕ) (a : Number) → i < M.rows → M.lower_side i ≡ None → zero_ℚ ≤ℚ a → ((w.s i -ℚ w.t i) *ℚ a) ≤ℚ zero_ℚ
  only_t i a l e h = ≤ℚ-by zero_ℚ (w.t i *ℚ a) ((w.s i -ℚ w.t i) *ℚ a) zero_ℚ
      (ring rational (w.t i ∷ a ∷ []) (v 0 :* v 1 :- num (pos 0)) (num (pos 0) :- (num (pos 0) :- v 0) :* v 1) refl ∙ ap (λ c. zero_ℚ -ℚ (c -ℚ w.t i) *ℚ a) (sym (infinite _ _ e (rows i l).0)))
      (*ℚ_pos (weight_pos _ _ (rows i l).1) h)

  only_s : (i : ℕ) (a : Number) → i < M.rows → M.upper_side i ≡ None → a ≤ℚ zero_ℚ → ((w.s i -ℚ w.t i) *ℚ a) ≤ℚ zero_ℚ
  only_s i a l e h = ≤ℚ-by (w.s i *ℚ a) zero_ℚ ((w.s i -ℚ w.t i) *ℚ a) zero_ℚ
      (ring rational (w.s i ∷ a ∷ []) (num (pos 0) :- v 0 :* v 1) (num (pos 0) :- (v 0 :- num (pos 0)) :* v 1) refl ∙ ap (λ c. zero_ℚ -ℚ (w.s i -ℚ c) *ℚ a) (sym (infinite _ _ e (rows i l).1)))
      (*ℚ_pos_neg (weight_pos _ _ (rows i l).0) h)

  only_t' : (i : ℕ) (a : Number) → i < M.rows → M.lower_side i ≡ None → a ≤ℚ zero_ℚ → zero_ℚ ≤ℚ ((w.s i -ℚ w.t i) *ℚ a)
  only_t' i a l e h = ≤ℚ-by (w.t i *ℚ a) zero_ℚ zero_ℚ ((w.s i -ℚ w.t i) *ℚ a)
      (ring rational (w.t i ∷ a ∷ []) (num (pos 0) :- v 0 :* v 1) ((num (pos 0) :- v 0) :* v 1 :- num (pos 0)) refl ∙ ap (λ c. (c -ℚ w.t i) *ℚ a -ℚ zero_ℚ) (sym (infinite _ _ e (rows i l).0)))
      (*ℚ_pos_neg (weight_pos _ _ (rows i l).1) h)

  only_s' : (i : ℕ) (a : Number) → i < M.rows → M.upper_side i ≡ None → zero_ℚ ≤ℚ a → zero_ℚ ≤ℚ ((w.s i -ℚ w.t i) *ℚ a)
  only_s' i a l e h = ≤ℚ-by zero_ℚ (w.s i *ℚ a) zero_ℚ ((w.s i -ℚ w.t i) *ℚ a)
      (ring rational (w.s i ∷ a ∷ []) (v 0 :* v 1 :- num (pos 0)) ((v 0 :- num (pos 0)) :* v 1 :- num (pos 0)) refl ∙ ap (λ c. (w.s i -ℚ c) *ℚ a -ℚ zero_ℚ) (sym (infinite _ _ e (rows i l).1)))
      (*ℚ_pos (weight_pos _ _ (rows i l).0) h)

  term_zero : (i : ℕ) (a : Number) → a ≡ zero_ℚ → (w.s i -ℚ w.t i) *ℚ a ≡ zero_ℚ
  term_zero i a z = ap (λ c. (w.s i -ℚ w.t i) *ℚ c) z ∙ ring rational ((w.s i -ℚ w.t i) ∷ []) (v 0 :* num (pos 0)) (num (pos 0)) refl

  down : (j : ℕ) → HasNoDownLock M j → entries_of M w j ≤ℚ zero_ℚ
  down j h = total_neg M.rows _ (λ i l. elim (≤ℚ_cases (M.coefficient i j) zero_ℚ) [
    | inr p ↦ only_t i _ l (h.positive i l p) (<ℚ-≤ℚ p)
    | inl p ↦ elim (≤ℚ_cases zero_ℚ (M.coefficient i j)) [
      | inr n ↦ only_s i _ l (h.negative i l n) (<ℚ-≤ℚ n)
      | inl n ↦ ≤ℚ-same (term_zero i _ (≤ℚ_antisym p n))
    ]
  ])

  up : (j : ℕ) → HasNoUpLock M j → zero_ℚ ≤ℚ entries_of M w j
  up j h = total_pos M.rows _ (λ i l. elim (≤ℚ_cases (M.coefficient i j) zero_ℚ) [
    | inr p ↦ only_s' i _ l (h.positive i l p) (<ℚ-≤ℚ p)
    | inl p ↦ elim (≤ℚ_cases zero_ℚ (M.coefficient i j)) [
      | inr n ↦ only_t' i _ l (h.negative i l n) (<ℚ-≤ℚ n)
      | inl n ↦ ≤ℚ-same (sym (term_zero i _ (≤ℚ_antisym p n)))
    ]
  ])

  -- a side's part of a term, for a greater entry and for a less one
  low_part : (o : Option Number) (s a b : Number) → IsWeight o s → ((L : Number) → o ≡ Some L → a ≤ℚ b) → (s *ℚ a) ≤ℚ (s *ℚ b)
  low_part None s a b h f = ≤ℚ-same (ap (λ c. c *ℚ a) h ∙ ring rational (a ∷ b ∷ []) (num (pos 0) :* v 0) (num (pos 0) :* v 1) refl ∙ ap (λ c. c *ℚ b) (sym h))
  low_part (Some L) s a b h f = ≤ℚ-*ℚ s h (f L refl)

  dominated : (j k : ℕ) → ((i : ℕ) → i < M.rows → (U : Number) → M.upper_side i ≡ Some U → M.coefficient i j ≤ℚ M.coefficient i k)
      → ((i : ℕ) → i < M.rows → (L : Number) → M.lower_side i ≡ Some L → M.coefficient i k ≤ℚ M.coefficient i j) → entries_of M w k ≤ℚ entries_of M w j
  dominated j k f g = total-≤ M.rows _ _ (λ i l. linear ((w.s i *ℚ M.coefficient i k) ∷ (w.s i *ℚ M.coefficient i j) ∷ (w.t i *ℚ M.coefficient i j) ∷ (w.t i *ℚ M.coefficient i k) ∷ ((w.s i -ℚ w.t i) *ℚ M.coefficient i k) ∷ ((w.s i -ℚ w.t i) *ℚ M.coefficient i j) ∷ [])
      (fact 1 (v 0) (v 1) ∷ fact 1 (v 2) (v 3) ∷ fact 1 (v 4) (v 0 :- v 3) ∷ fact 1 (v 1 :- v 2) (v 5) ∷ []) 0 (v 4) (v 5) (
        low_part (M.lower_side i) (w.s i) _ _ (rows i l).0 (g i l),
        (
          low_part (M.upper_side i) (w.t i) _ _ (rows i l).1 (f i l),
          (
            ≤ℚ-same (ring rational (w.s i ∷ w.t i ∷ M.coefficient i k ∷ []) ((v 0 :- v 1) :* v 2) (v 0 :* v 2 :- v 1 :* v 2) refl),
            (≤ℚ-same (ring rational (w.s i ∷ w.t i ∷ M.coefficient i j ∷ []) (v 0 :* v 2 :- v 1 :* v 2) ((v 0 :- v 1) :* v 2) refl), tt),
          ),
        ),
      ) refl)

-- ---- a column with one number as both bounds keeps the net of its weights at one of its old bounds
at_lower : (l u : Option Number) (c p q : Number) → l ≡ Some c → zero_ℚ ≤ℚ (p -ℚ q) → ColumnMoved l u (p -ℚ q) zero_ℚ (p -ℚ q) (p *ℚ c -ℚ q *ℚ c) zero_ℚ zero_ℚ
at_lower l u c p q e h = record {
  low = subst (λ o. IsWeight o (p -ℚ q)) (sym e) h;
  high = no_weight u;
  net = ring rational ((p -ℚ q) ∷ []) (v 0 :- num (pos 0)) (v 0 :- num (pos 0)) refl;
  worths = ap₂ (λ o z. worth o (p -ℚ q) -ℚ z) e (worth_none u) ∙ ring rational (p ∷ q ∷ c ∷ []) ((v 0 :- v 1) :* v 2 :- num (pos 0)) ((v 0 :* v 2 :- v 1 :* v 2) :- num (pos 0)) refl;
}

at_upper : (l u : Option Number) (c p q : Number) → u ≡ Some c → (p -ℚ q) ≤ℚ zero_ℚ → ColumnMoved l u zero_ℚ (neg_ℚ (p -ℚ q)) (p -ℚ q) (p *ℚ c -ℚ q *ℚ c) zero_ℚ zero_ℚ
at_upper l u c p q e h = record {
  low = no_weight l;
  high = subst (λ o. IsWeight o (neg_ℚ (p -ℚ q))) (sym e) (negative_pos' (p -ℚ q) h);
  net = ring rational ((p -ℚ q) ∷ []) (num (pos 0) :- inv (v 0)) (v 0 :- num (pos 0)) refl;
  worths = ap₂ (λ z o. z -ℚ worth o (neg_ℚ (p -ℚ q))) (worth_none l) e ∙ ring rational (p ∷ q ∷ c ∷ []) (num (pos 0) :- inv (v 0 :- v 1) :* v 2) ((v 0 :* v 2 :- v 1 :* v 2) :- num (pos 0)) refl;
}

at_neither : (l u : Option Number) (c p q : Number) → p -ℚ q ≡ zero_ℚ → ColumnMoved l u zero_ℚ zero_ℚ (p -ℚ q) (p *ℚ c -ℚ q *ℚ c) zero_ℚ zero_ℚ
at_neither l u c p q h = record {
  low = no_weight l;
  high = no_weight u;
  net = ring rational [] (num (pos 0) :- num (pos 0)) (num (pos 0) :- num (pos 0)) refl ∙ ap (λ z. z -ℚ zero_ℚ) (sym h);
  worths = ap₂ ◌-ℚ◌ (worth_none l) (worth_none u) ∙ ring rational (c ∷ []) (num (pos 0) :- num (pos 0)) (num (pos 0) :* v 0 :- num (pos 0)) refl ∙ ap (λ z. z *ℚ c -ℚ zero_ℚ) (sym h)
      ∙ ring rational (p ∷ q ∷ c ∷ []) ((v 0 :- v 1) :* v 2 :- num (pos 0)) ((v 0 :* v 2 :- v 1 :* v 2) :- num (pos 0)) refl;
}

-- one column's weights change, and nothing else
one_moves : (M : LinearProgram) (j : ℕ) (c : Number) (w : Weights) (p q : Number) → IsWeighting (column_fixed_at M j c) w
    → ColumnMoved (M.lower_bound j) (M.upper_bound j) p q (w.p j -ℚ w.q j) (w.p j *ℚ c -ℚ w.q j *ℚ c) zero_ℚ zero_ℚ
    → Moved M (column_fixed_at M j c) w (record w { p = put w.p j p; q = put w.q j q })
one_moves M j c w p q h m = bounds_move M (put M.lower_bound j (Some c)) (put M.upper_bound j (Some c)) w (put w.p j p) (put w.q j q) h
    (at_or_off (λ k. k < M.columns → ColumnMoved (M.lower_bound k) (M.upper_bound k) (put w.p j p k) (put w.q j q k) (w.p k -ℚ w.q k)
    (worth (put M.lower_bound j (Some c) k) (w.p k) -ℚ worth (put M.upper_bound j (Some c) k) (w.q k)) zero_ℚ zero_ℚ) j
    (λ l. rw (put-same w.p j p, put-same w.q j q, put-same M.lower_bound j (Some c), put-same M.upper_bound j (Some c)) m)
    (λ k n l. rw (put-other w.p j p k n, put-other w.q j q k n, put-other M.lower_bound j (Some c) k n, put-other M.upper_bound j (Some c) k n)
    (column_same (M.lower_bound k) (M.upper_bound k) (w.p k) (w.q k) zero_ℚ zero_ℚ (rw (← put-other M.lower_bound j (Some c) k n, ← put-other M.upper_bound j (Some c) k n) (h.columns k l)) refl refl)))

neg_up : (x : Number) → x ≤ℚ zero_ℚ → zero_ℚ ≤ℚ neg_ℚ x
neg_up x h = negative_pos' x h

neg_down : (x : Number) → zero_ℚ ≤ℚ x → neg_ℚ x ≤ℚ zero_ℚ
neg_down x h = ≤ℚ-by zero_ℚ x (neg_ℚ x) zero_ℚ (ring rational (x ∷ []) (v 0 :- num (pos 0)) (num (pos 0) :- inv (v 0)) refl) h

-- ---- K10
module _ (M : LinearProgram) (j : ℕ) (c : Number) (d : IsDualFixing M j c) where
  fixed_down : GoesDown M j c → (w : Weights) → IsWeighting (column_dual_fixed M j c) w → Moved M (column_dual_fixed M j c) w (ray_kept_lower j w)
  fixed_down g w h = one_moves M j c w (w.p j -ℚ w.q j) zero_ℚ h (at_lower _ _ c (w.p j) (w.q j) g.lower
      (subst (λ x. zero_ℚ ≤ℚ x) (sym (left_by_entries M w j (h.nets j d.column))) (neg_up _ (down M w h.rows j g.rows))))

  fixed_up : GoesUp M j c → (w : Weights) → IsWeighting (column_dual_fixed M j c) w → Moved M (column_dual_fixed M j c) w (ray_kept_upper j w)
  fixed_up g w h = one_moves M j c w zero_ℚ (neg_ℚ (w.p j -ℚ w.q j)) h (at_upper _ _ c (w.p j) (w.q j) g.upper
      (subst (λ x. x ≤ℚ zero_ℚ) (sym (left_by_entries M w j (h.nets j d.column))) (neg_down _ (up M w h.rows j g.rows))))

  -- up, the lower bound isn't c
  up_moves : GoesUp M j c → same_end (M.lower_bound j) (Some c) ≡ true → ⊥
  up_moves g e = <ℚ-not (d.apart c c ((same_end-is (M.lower_bound j) (Some c)).0 e) g.upper) (≤ℚ_refl c)

  fixed : (w : Weights) → IsWeighting (column_dual_fixed M j c) w → Moved M (column_dual_fixed M j c) w (ray_fixed (same_end (M.lower_bound j) (Some c)) j w)
  fixed w h = elim d.goes [
    | inl g ↦ subst (λ b. Moved M (column_dual_fixed M j c) w (ray_fixed b j w)) (sym ((same_end-is (M.lower_bound j) (Some c)).1 g.lower)) (fixed_down g w h)
    | inr g ↦ by (same_end (M.lower_bound j) (Some c)) (up_moves g) (fixed_up g w h)
  ]
    where
      by : (b : Bool) → (b ≡ true → ⊥) → Moved M (column_dual_fixed M j c) w (ray_kept_upper j w) → Moved M (column_dual_fixed M j c) w (ray_fixed b j w)
      by true n m = absurd (n refl)
      by false n m = m

  pub dual_fixed_back : StepsBack M (column_dual_fixed M j c) (ray_fixed (same_end (M.lower_bound j) (Some c)) j)
  dual_fixed_back = steps_of M (column_dual_fixed M j c) _ fixed

-- ---- by the sign of what is left
settled_zero : (M : LinearProgram) (j : ℕ) (c : Number) (w : Weights) → IsWeighting (column_fixed_at M j c) w → w.p j -ℚ w.q j ≡ zero_ℚ → Moved M (column_fixed_at M j c) w (ray_kept_upper j w)
settled_zero M j c w h z = subst (λ q. Moved M (column_fixed_at M j c) w (record w { p = put w.p j zero_ℚ; q = put w.q j q })) (sym (ap neg_ℚ z ∙ ring rational [] (inv (num (pos 0))) (num (pos 0)) refl))
    (one_moves M j c w zero_ℚ zero_ℚ h (at_neither _ _ c (w.p j) (w.q j) z))

settled_up : (M : LinearProgram) (j : ℕ) (c : Number) (w : Weights) → IsWeighting (column_fixed_at M j c) w → M.lower_bound j ≡ Some c → zero_ℚ ≤ℚ (w.p j -ℚ w.q j) → Moved M (column_fixed_at M j c) w (ray_settled j w)
settled_up M j c w h l n = by (lt_ℚ zero_ℚ (w.p j -ℚ w.q j)) refl
  where
    by : (b : Bool) → lt_ℚ zero_ℚ (w.p j -ℚ w.q j) ≡ b → Moved M (column_fixed_at M j c) w (if b then ray_kept_lower j w else ray_kept_upper j w)
    by true e = one_moves M j c w (w.p j -ℚ w.q j) zero_ℚ h (at_lower _ _ c (w.p j) (w.q j) l n)
    by false e = settled_zero M j c w h (≤ℚ_antisym (lt_false _ _ e) n)

settled_down : (M : LinearProgram) (j : ℕ) (c : Number) (w : Weights) → IsWeighting (column_fixed_at M j c) w → M.upper_bound j ≡ Some c → (w.p j -ℚ w.q j) ≤ℚ zero_ℚ → Moved M (column_fixed_at M j c) w (ray_settled j w)
settled_down M j c w h u n = by (lt_ℚ zero_ℚ (w.p j -ℚ w.q j)) refl
  where
    by : (b : Bool) → lt_ℚ zero_ℚ (w.p j -ℚ w.q j) ≡ b → Moved M (column_fixed_at M j c) w (if b then ray_kept_lower j w else ray_kept_upper j w)
    by true e = absurd (<ℚ-not (lt_true _ _ e) n)
    by false e = one_moves M j c w zero_ℚ (neg_ℚ (w.p j -ℚ w.q j)) h (at_upper _ _ c (w.p j) (w.q j) u n)

module _ (M : LinearProgram) (j : ℕ) (c : Number) (d : IsDualFixing M j c) where
  settled : (w : Weights) → IsWeighting (column_dual_fixed M j c) w → Moved M (column_dual_fixed M j c) w (ray_settled j w)
  settled w h = elim d.goes [
    | inl g ↦ settled_up M j c w h g.lower (subst (λ x. zero_ℚ ≤ℚ x) (sym (left_by_entries M w j (h.nets j d.column))) (neg_up _ (down M w h.rows j g.rows)))
    | inr g ↦ settled_down M j c w h g.upper (subst (λ x. x ≤ℚ zero_ℚ) (sym (left_by_entries M w j (h.nets j d.column))) (neg_down _ (up M w h.rows j g.rows)))
  ]

  pub settled_back : StepsBack M (column_dual_fixed M j c) (ray_settled j)
  settled_back = steps_of M (column_dual_fixed M j c) _ settled

-- ---- K11
module _ (M : LinearProgram) (j k : ℕ) (c : Number) (d : IsDominatedColumn M j k c) where
  column_down : (w : Weights) → IsWeighting (dominated_column_fixed M k c) w → entries_of M w j ≤ℚ zero_ℚ
  column_down w h =
      let b = h.columns j d.first in
      let q : w.q j ≡ zero_ℚ = infinite _ _ (put-other M.upper_bound k (Some c) j d.differ ∙ d.endless) b.1 in
      ≤ℚ-by zero_ℚ (w.p j) (entries_of M w j) zero_ℚ
      (ring rational (w.p j ∷ []) (v 0 :- num (pos 0)) (v 0 :- num (pos 0)) refl ∙ ap (λ x. w.p j -ℚ x) (sym q) ∙ left_by_entries M w j (h.nets j d.first) ∙ ring rational (entries_of M w j ∷ []) (inv (v 0)) (num (pos 0) :- v 0) refl)
      (weight_pos _ _ b.0)

  dominated_down : (w : Weights) → IsWeighting (dominated_column_fixed M k c) w → Moved M (dominated_column_fixed M k c) w (ray_kept_lower k w)
  dominated_down w h = one_moves M k c w (w.p k -ℚ w.q k) zero_ℚ h (at_lower _ _ c (w.p k) (w.q k) d.lower
      (subst (λ x. zero_ℚ ≤ℚ x) (sym (left_by_entries M w k (h.nets k d.second))) (neg_up _ (≤ℚ_trans (dominated M w h.rows j k d.below d.above) (column_down w h)))))

  pub dominated_back : StepsBack M (dominated_column_fixed M k c) (ray_kept_lower k)
  dominated_back = steps_of M (dominated_column_fixed M k c) _ dominated_down

module _ (M : LinearProgram) (j k : ℕ) (c : Number) (d : IsDominatedColumn M j k c) where
  dominated_settled : (w : Weights) → IsWeighting (dominated_column_fixed M k c) w → Moved M (dominated_column_fixed M k c) w (ray_settled k w)
  dominated_settled w h = settled_up M k c w h d.lower
      (subst (λ x. zero_ℚ ≤ℚ x) (sym (left_by_entries M w k (h.nets k d.second))) (neg_up _ (≤ℚ_trans (dominated M w h.rows j k d.below d.above) (column_down M j k c d w h))))

  pub dominated_settled_back : StepsBack M (dominated_column_fixed M k c) (ray_settled k)
  dominated_settled_back = steps_of M (dominated_column_fixed M k c) _ dominated_settled

-- ---- K17
module _ (M : LinearProgram) (j : ℕ) (c : Number) (d : IsEmptyColumn M j c) where
  empty_same : (w : Weights) → IsWeighting (empty_column_fixed M j c) w → Moved M (empty_column_fixed M j c) w (ray_empty_column j w)
  empty_same w h = one_moves M j c w zero_ℚ zero_ℚ h (at_neither _ _ c (w.p j) (w.q j)
      (left_by_entries M w j (h.nets j d.column) ∙ ap neg_ℚ (total-zero M.rows _ (λ i l. ap (λ x. (w.s i -ℚ w.t i) *ℚ x) (d.empty i l) ∙ ring rational ((w.s i -ℚ w.t i) ∷ []) (v 0 :* num (pos 0)) (num (pos 0)) refl)) ∙ ring rational [] (inv (num (pos 0))) (num (pos 0)) refl))

  pub empty_column_back : StepsBack M (empty_column_fixed M j c) (ray_empty_column j)
  empty_column_back = steps_of M (empty_column_fixed M j c) _ empty_same
