-- Parallel columns: points.
use Rattle.std.proofs.Common.{◌≡◌, ◌≢◌, ℕ, ◌<◌, pos, sym, refl, ap, ap₂, ◌∙◌, [], ◌∷◌, inl, inr, subst, Option, Some, None, true, false, IsTrue}
use Rattle.std.specs.Prelude.{IfSome, if◌then◌else◌}
use Rattle.fractions.specs.Ring.{ring, v, num, ◌:+◌, ◌:-◌, ◌:*◌, inv}
use Rattle.fractions.specs.Number.{Number, rational, zero_ℚ, one_ℚ, ◌+ℚ◌, ◌-ℚ◌, ◌*ℚ◌}
use Rattle.fractions.specs.Linear.{linear, fact}
use Rattle.fractions.specs.Floor.{IsWhole}
use Rattle.fractions.specs.Division.{◌/ℚ◌}
use Rattle.fractions.specs.Total.{total, put}
use Rattle.fractions.specs.Ends.{AtLeast, AtMost, Between, plus, minus_ends, meet_low, meet_high, over}
use Rattle.fractions.proofs.Floors.{IsWhole-+ℚ, IsWhole-*ℚ, IsWhole-neg_ℚ}
use Rattle.fractions.proofs.Totals.{put-same, put-other, at_or_off, total-put_point, total-put_both, total-put_factor}
use Rattle.fractions.specs.Signs.{times-over}
use Rattle.lp_model.specs.declared.program.Sense.{Sense}
use Rattle.lp_model.specs.Vectors.{Vector}
use Rattle.lp_model.specs.LinearProgram.{LinearProgram, cost_at, Feasible}
use Rattle.lp_model.specs.Reductions.{Reduces}
use Rattle.fractions.specs.Compare.{lt_ℚ}
use Rattle.lp_theory.specs.Activities.{least_term, greatest_term}
use Rattle.lp_theory.specs.MetEnds.{lower_over, upper_over}
use Rattle.lp_theory.specs.Nearest.{InOrder}
use Rattle.lp_theory.proofs.ActivityLaws.{AtLeast-+, AtMost-+, least_term-low, greatest_term-high}
use Rattle.lp_theory.proofs.Nearest.{near-whole, met_low_whole, met_high_whole, near_in_both}
use Rattle.lp_theory.proofs.Steps.{no_worse_same, plus_zero}
use Rattle.lp_columns.specs.ParallelColumns.{AreWhole, AreParallelColumns, joined_lower, joined_upper, parallel_columns_joined, part_of, undo_parallel_columns}
use Rattle.lp_theory.proofs.GapSteps.{gaps_moved, gaps_off, gaps_back}

-- ---- what the bounds of one part leave the other
left_in_order : (X : Number) (l u : Option Number) → InOrder l u → InOrder (minus_ends (Some X) u) (minus_ends (Some X) l)
left_in_order X l None h = tt
left_in_order X None (Some c) h = tt
left_in_order X (Some b) (Some c) h = linear (X ∷ b ∷ c ∷ []) (fact 1 (v 1) (v 2) ∷ []) 0 (v 0 :- v 2) (v 0 :- v 1) (h, tt) refl

left_below : (X : Number) (u g : Option Number) → AtMost (plus u g) X → InOrder (minus_ends (Some X) u) g
left_below X None g h = tt
left_below X (Some b) None h = tt
left_below X (Some b) (Some c) h = linear (X ∷ b ∷ c ∷ []) (fact 1 (v 0) (v 1 :+ v 2) ∷ []) 0 (v 0 :- v 1) (v 2) (h, tt) refl

left_above : (X : Number) (l g : Option Number) → AtLeast (plus l g) X → InOrder g (minus_ends (Some X) l)
left_above X l None h = tt
left_above X None (Some c) h = tt
left_above X (Some b) (Some c) h = linear (X ∷ b ∷ c ∷ []) (fact 1 (v 1 :+ v 2) (v 0) ∷ []) 0 (v 2) (v 0 :- v 1) (h, tt) refl

left_between : (X y : Number) (l u : Option Number) → Between (minus_ends (Some X) u) (minus_ends (Some X) l) y → Between l u (X -ℚ y)
left_between X y l u b = record { low = low l b.high; high = high u b.low }
  where
    low : (l : Option Number) → AtMost (minus_ends (Some X) l) y → AtLeast l (X -ℚ y)
    low None h = tt
    low (Some c) h = linear (X ∷ y ∷ c ∷ []) (fact 1 (v 1) (v 0 :- v 2) ∷ []) 0 (v 2) (v 0 :- v 1) (h, tt) refl

    high : (u : Option Number) → AtLeast (minus_ends (Some X) u) y → AtMost u (X -ℚ y)
    high None h = tt
    high (Some c) h = linear (X ∷ y ∷ c ∷ []) (fact 1 (v 0 :- v 2) (v 1) ∷ []) 0 (v 0 :- v 1) (v 2) (h, tt) refl

-- the part of X lies between its bounds, and what it leaves between the other's
pub part_in : (s X : Number) (l u p q : Option Number) → s ≢ zero_ℚ → InOrder l u → InOrder p q → Between (plus p (least_term s l u)) (plus q (greatest_term s l u)) X
    → Between l u (part_of s l u p q X) × Between p q (X -ℚ s *ℚ part_of s l u p q X)
part_in s X l u p q n o r b =
    let h = near_in_both s l u (minus_ends (Some X) q) (minus_ends (Some X) p) n o (left_in_order X p q r) (left_below X q (greatest_term s l u) b.high) (left_above X p (least_term s l u) b.low) in
    (h.0, left_between X (s *ℚ part_of s l u p q X) p q h.1)

-- ---- whole parts
difference_whole : (p q : Number) → IsWhole p → IsWhole q → IsWhole (p -ℚ q)
difference_whole p q h m = IsWhole-+ℚ h (IsWhole-neg_ℚ m)

left_whole : (X : Number) (o : Option Number) → IsWhole X → IfSome o IsWhole → IfSome (minus_ends (Some X) o) IsWhole
left_whole X None h m = tt
left_whole X (Some c) h m = difference_whole X c h m

over_whole : (s : Number) (o : Option Number) → s ≢ zero_ℚ → IsWhole s → s *ℚ s ≡ one_ℚ → IfSome o IsWhole → IfSome (over o s) IsWhole
over_whole s None n h e m = tt
over_whole s (Some c) n h e m = subst IsWhole (sym (ap (λ q. q /ℚ s) (ring rational (c ∷ []) (v 0) (num (pos 1) :* v 0) refl ∙ ap (λ q. q *ℚ c) (sym e) ∙ ring rational (s ∷ c ∷ []) (v 0 :* v 0 :* v 1) (v 0 :* (v 0 :* v 1)) refl) ∙ times-over s (s *ℚ c) n)) (IsWhole-*ℚ h m)

lower_over_whole : (s : Number) (p q : Option Number) → s ≢ zero_ℚ → IsWhole s → s *ℚ s ≡ one_ℚ → IfSome p IsWhole → IfSome q IsWhole → IfSome (lower_over s p q) IsWhole
lower_over_whole s p q n h e a b = elim (lt_ℚ zero_ℚ s) as (λ t. IfSome (if t then over p s else over q s) IsWhole) [ true ↦ over_whole s p n h e a | false ↦ over_whole s q n h e b ]

upper_over_whole : (s : Number) (p q : Option Number) → s ≢ zero_ℚ → IsWhole s → s *ℚ s ≡ one_ℚ → IfSome p IsWhole → IfSome q IsWhole → IfSome (upper_over s p q) IsWhole
upper_over_whole s p q n h e a b = elim (lt_ℚ zero_ℚ s) as (λ t. IfSome (if t then over q s else over p s) IsWhole) [ true ↦ over_whole s q n h e b | false ↦ over_whole s p n h e a ]

part_whole : (s X : Number) (l u p q : Option Number) → s ≢ zero_ℚ → IsWhole s → s *ℚ s ≡ one_ℚ → IsWhole X → IfSome l IsWhole → IfSome u IsWhole → IfSome p IsWhole → IfSome q IsWhole
    → IsWhole (part_of s l u p q X)
part_whole s X l u p q n h e x a b c d =
    let low = left_whole X q x d in
    let high = left_whole X p x c in
    near-whole
    (meet_low l (lower_over s (minus_ends (Some X) q) (minus_ends (Some X) p)))
    (meet_high u (upper_over s (minus_ends (Some X) q) (minus_ends (Some X) p)))
    (met_low_whole l (lower_over s (minus_ends (Some X) q) (minus_ends (Some X) p)) a (lower_over_whole s (minus_ends (Some X) q) (minus_ends (Some X) p) n h e low high))
    (met_high_whole u (upper_over s (minus_ends (Some X) q) (minus_ends (Some X) p)) b (upper_over_whole s (minus_ends (Some X) q) (minus_ends (Some X) p) n h e low high))

module _ (M : LinearProgram) (j k : ℕ) (s : Number) (d : AreParallelColumns M j k s) where
  abbrev R : LinearProgram
  R = parallel_columns_joined M j k s

  abbrev b : Vector → Number
  b x = part_of s (M.lower_bound j) (M.upper_bound j) (M.lower_bound k) (M.upper_bound k) (x k)

  abbrev split : Vector → Vector
  split x = undo_parallel_columns j k s (M.lower_bound j) (M.upper_bound j) (M.lower_bound k) (M.upper_bound k) x

  pub kj : k ≢ j
  kj m = d.differ (sym m)

  pub split_first : (x : Vector) → split x j ≡ b x
  split_first x = put-other (put x j (b x)) k (x k -ℚ s *ℚ b x) j d.differ ∙ put-same x j (b x)

  pub split_second : (x : Vector) → split x k ≡ x k -ℚ s *ℚ b x
  split_second x = put-same (put x j (b x)) k (x k -ℚ s *ℚ b x)

  pub split_other : (x : Vector) (p : ℕ) → p ≢ j → p ≢ k → split x p ≡ x p
  split_other x p nj nk = put-other (put x j (b x)) k (x k -ℚ s *ℚ b x) p nk ∙ put-other x j (b x) p nj

  -- a sum whose factor at j is s times that at k
  pub sum_split : (f : ℕ → Number) (x : Vector) → f j ≡ s *ℚ f k → total M.columns (λ p. f p *ℚ split x p) ≡ total M.columns (λ p. put f j zero_ℚ p *ℚ x p)
  sum_split f x e = total-put_point M.columns f (put x j (b x)) k (x k -ℚ s *ℚ b x) d.second
      ∙ ap₂ (λ t y. t +ℚ f k *ℚ ((x k -ℚ s *ℚ b x) -ℚ y)) (total-put_both M.columns f x j (b x) d.first ∙ ap (λ q. total M.columns (λ p. put f j zero_ℚ p *ℚ x p) +ℚ q *ℚ b x) e) (put-other x j (b x) k kj)
      ∙ ring rational (total M.columns (λ p. put f j zero_ℚ p *ℚ x p) ∷ s ∷ f k ∷ b x ∷ x k ∷ []) (v 0 :+ v 1 :* v 2 :* v 3 :+ v 2 :* ((v 4 :- v 1 :* v 3) :- v 4)) (v 0) refl

  abbrev joined : Vector → Vector
  joined w = put w k (w k +ℚ s *ℚ w j)

  sum_joined : (f : ℕ → Number) (w : Vector) → f j ≡ s *ℚ f k → total M.columns (λ p. put f j zero_ℚ p *ℚ joined w p) ≡ total M.columns (λ p. f p *ℚ w p)
  sum_joined f w e = total-put_point M.columns (put f j zero_ℚ) w k (w k +ℚ s *ℚ w j) d.second
      ∙ ap₂ (λ t y. t +ℚ y *ℚ ((w k +ℚ s *ℚ w j) -ℚ w k)) (total-put_factor M.columns f w j zero_ℚ d.first ∙ ap (λ q. total M.columns (λ p. f p *ℚ w p) +ℚ (zero_ℚ -ℚ q) *ℚ w j) e) (put-other f j zero_ℚ k kj)
      ∙ ring rational (total M.columns (λ p. f p *ℚ w p) ∷ s ∷ f k ∷ w k ∷ w j ∷ []) (v 0 :+ (num (pos 0) :- v 1 :* v 2) :* v 4 :+ v 2 :* ((v 3 :+ v 1 :* v 4) :- v 3)) (v 0) refl

  -- the new bounds, at k and elsewhere
  pub lower_at : R.lower_bound k ≡ joined_lower M j k s
  lower_at = put-same (put M.lower_bound j None) k (joined_lower M j k s)

  pub upper_at : R.upper_bound k ≡ joined_upper M j k s
  upper_at = put-same (put M.upper_bound j None) k (joined_upper M j k s)

  pub lower_other : (p : ℕ) → p ≢ j → p ≢ k → R.lower_bound p ≡ M.lower_bound p
  lower_other p nj nk = put-other (put M.lower_bound j None) k (joined_lower M j k s) p nk ∙ put-other M.lower_bound j None p nj

  pub upper_other : (p : ℕ) → p ≢ j → p ≢ k → R.upper_bound p ≡ M.upper_bound p
  upper_other p nj nk = put-other (put M.upper_bound j None) k (joined_upper M j k s) p nk ∙ put-other M.upper_bound j None p nj

  -- a fact of each column: of k, of j and of the others
  pub each : (P : ℕ → Type 0) → P j → P k → ((p : ℕ) → p ≢ j → p ≢ k → P p) → (p : ℕ) → P p
  each P at_j at_k off = at_or_off P k at_k (λ p nk. at_or_off (λ p. p ≢ k → P p) j (λ n. at_j) (λ p nj n. off p nj n) p nk)

  pub parts : (x : Vector) → Feasible R x → Between (M.lower_bound j) (M.upper_bound j) (b x) × Between (M.lower_bound k) (M.upper_bound k) (x k -ℚ s *ℚ b x)
  parts x h = part_in s (x k) (M.lower_bound j) (M.upper_bound j) (M.lower_bound k) (M.upper_bound k) d.factor d.first_bounds d.second_bounds
      (subst (λ l. Between l (joined_upper M j k s) (x k)) lower_at (subst (λ u. Between (R.lower_bound k) u (x k)) upper_at (h.columns k d.second)))

  factor_whole : AreWhole M j k s → IsWhole s
  factor_whole a = elim a.factor [
    | inl e ↦ subst IsWhole (sym e) (record { whole = pos 1; same = refl })
    | inr e ↦ subst IsWhole (sym e) (IsWhole-neg_ℚ (record { whole = pos 1; same = refl }))
  ]

  factor_unit : AreWhole M j k s → s *ℚ s ≡ one_ℚ
  factor_unit a = elim a.factor [
    | inl e ↦ ap (λ q. q *ℚ q) e ∙ ring rational [] (num (pos 1) :* num (pos 1)) (num (pos 1)) refl
    | inr e ↦ ap (λ q. q *ℚ q) e ∙ ring rational [] (inv (num (pos 1)) :* inv (num (pos 1))) (num (pos 1)) refl
  ]

  b_whole : (x : Vector) → Feasible R x → AreWhole M j k s → IsWhole (x k) × IsWhole (b x)
  b_whole x h a = let X : IsWhole (x k) = h.whole k d.second (put-other M.whole j false k kj ∙ a.second) in
      (X, part_whole s (x k) (M.lower_bound j) (M.upper_bound j) (M.lower_bound k) (M.upper_bound k) d.factor (factor_whole a) (factor_unit a) X a.first_bounds.lower a.first_bounds.upper a.second_bounds.lower a.second_bounds.upper)

  whole_first : (x : Vector) → Feasible R x → IsTrue (M.whole j) → IsWhole (b x)
  whole_first x h t = elim d.kinds [ inl c ↦ absurd (let f = c.first in cc) | inr a ↦ (b_whole x h a).1 ]

  whole_second : (x : Vector) → Feasible R x → IsTrue (M.whole k) → IsWhole (x k -ℚ s *ℚ b x)
  whole_second x h t = elim d.kinds [ inl c ↦ absurd (let f = c.second in cc) | inr a ↦ difference_whole (x k) (s *ℚ b x) (b_whole x h a).0 (IsWhole-*ℚ (factor_whole a) (b_whole x h a).1) ]

  pub lifted : (x : Vector) → Feasible R x → Feasible M (split x)
  lifted x h = let f = parts x h in record {
    rows = λ m l. subst (Between (M.lower_side m) (M.upper_side m)) (sym (sum_split (M.coefficient m) x (d.entries m l))) (h.rows m l);
    columns = each (λ p. p < M.columns → Between (M.lower_bound p) (M.upper_bound p) (split x p))
        (λ l. subst (Between (M.lower_bound j) (M.upper_bound j)) (sym (split_first x)) f.0)
        (λ l. subst (Between (M.lower_bound k) (M.upper_bound k)) (sym (split_second x)) f.1)
        (λ p nj nk l. rw (split_other x p nj nk, ← lower_other p nj nk, ← upper_other p nj nk) (h.columns p l));
    whole = each (λ p. p < M.columns → IsTrue (M.whole p) → IsWhole (split x p))
        (λ l t. subst IsWhole (sym (split_first x)) (whole_first x h t))
        (λ l t. subst IsWhole (sym (split_second x)) (whole_second x h t))
        (λ p nj nk l t. subst IsWhole (sym (split_other x p nj nk)) (h.whole p l (put-other M.whole j false p nj ∙ t)));
    gaps = gaps_moved M k (put x j (b x)) (x k -ℚ s *ℚ b x) d.second_solid (gaps_moved M j x (b x) d.first_solid (gaps_back M j x d.first_solid h.gaps));
  }

  joined_whole : (w : Vector) → Feasible M w → IsTrue (M.whole k) → IsWhole (w k +ℚ s *ℚ w j)
  joined_whole w h t = elim d.kinds [ inl c ↦ absurd (let f = c.second in cc) | inr a ↦ IsWhole-+ℚ (h.whole k d.second t) (IsWhole-*ℚ (factor_whole a) (h.whole j d.first a.first)) ]

  joined_in : (w : Vector) → Feasible M w → Between (joined_lower M j k s) (joined_upper M j k s) (w k +ℚ s *ℚ w j)
  joined_in w h = record {
    low = AtLeast-+ (M.lower_bound k) (least_term s (M.lower_bound j) (M.upper_bound j)) (w k) (s *ℚ w j) (h.columns k d.second).low (least_term-low s (M.lower_bound j) (M.upper_bound j) (w j) (h.columns j d.first));
    high = AtMost-+ (M.upper_bound k) (greatest_term s (M.lower_bound j) (M.upper_bound j)) (w k) (s *ℚ w j) (h.columns k d.second).high (greatest_term-high s (M.lower_bound j) (M.upper_bound j) (w j) (h.columns j d.first));
  }

  kept : (w : Vector) → Feasible M w → Feasible R (joined w)
  kept w h = record {
    rows = λ m l. subst (Between (M.lower_side m) (M.upper_side m)) (sym (sum_joined (M.coefficient m) w (d.entries m l))) (h.rows m l);
    columns = each (λ p. p < M.columns → Between (R.lower_bound p) (R.upper_bound p) (joined w p))
        (λ l. rw (put-other (put M.lower_bound j None) k (joined_lower M j k s) j d.differ, put-other (put M.upper_bound j None) k (joined_upper M j k s) j d.differ, put-same M.lower_bound, put-same M.upper_bound) (record { low = tt; high = tt }))
        (λ l. rw (lower_at, upper_at, put-same w) (joined_in w h))
        (λ p nj nk l. rw (lower_other p nj nk, upper_other p nj nk, put-other w k (w k +ℚ s *ℚ w j) p nk) (h.columns p l));
    whole = each (λ p. p < M.columns → IsTrue (put M.whole j false p) → IsWhole (joined w p))
        (λ l e. absurd (let f = put-same M.whole j false in cc))
        (λ l e. subst IsWhole (sym (put-same w k (w k +ℚ s *ℚ w j))) (joined_whole w h (sym (put-other M.whole j false k kj) ∙ e)))
        (λ p nj nk l e. subst IsWhole (sym (put-other w k (w k +ℚ s *ℚ w j) p nk)) (h.whole p l (sym (put-other M.whole j false p nj) ∙ e)));
    gaps = gaps_off M j (joined w) (gaps_moved M k w (w k +ℚ s *ℚ w j) d.second_solid h.gaps);
  }

  pub parallel_columns : (z : Sense) → Reduces z M R split zero_ℚ
  parallel_columns z = record {
    lifts = lifted;
    costs = λ x h. ap (λ q. q +ℚ M.constant) (sum_split M.costs x d.costs) ∙ plus_zero (cost_at R x);
    keeps = λ w h. (joined w, kept w h, no_worse_same z _ _ (sym (plus_zero (cost_at R (joined w))) ∙ ap (λ q. q +ℚ M.constant) (sum_joined M.costs w d.costs)));
  }
