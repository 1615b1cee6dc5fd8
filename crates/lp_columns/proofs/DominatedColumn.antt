-- A dominated column stays at its lower bound.
use Rattle.std.proofs.Common.{◌≡◌, ◌≢◌, ℕ, ◌<◌, pos, sym, refl, ap, ap₂, ◌∙◌, [], ◌∷◌, inl, inr, subst, Option, Some, None, IsTrue}
use Rattle.fractions.specs.Ring.{ring, v, num, ◌:+◌, ◌:-◌, ◌:*◌}
use Rattle.fractions.specs.Number.{Number, rational, zero_ℚ, ◌+ℚ◌, ◌-ℚ◌, ◌*ℚ◌, +ℚ_comm}
use Rattle.fractions.specs.Order.{◌≤ℚ◌, ◌<ℚ◌, ≤ℚ_refl, ≤ℚ_antisym, ≤ℚ_cases, <ℚ-≤ℚ, <ℚ-not}
use Rattle.fractions.specs.Linear.{linear, fact}
use Rattle.fractions.specs.Floor.{IsWhole}
use Rattle.fractions.specs.Total.{total, put}
use Rattle.fractions.specs.Ends.{AtLeast, AtMost, Between}
use Rattle.fractions.proofs.Floors.{IsWhole-+ℚ, IsWhole-neg_ℚ}
use Rattle.fractions.proofs.Totals.{put-same, put-other, at_or_off, total_same, total-+, total-put_point}
use Rattle.fractions.specs.Signs.{≤ℚ-same, *ℚ_pos, *ℚ_pos_neg, *ℚ_neg}
use Rattle.lp_model.specs.declared.program.Sense.TheVariants.{Min}
use Rattle.lp_model.specs.Vectors.{Vector}
use Rattle.lp_model.specs.LinearProgram.{LinearProgram, value_at, cost_at, Feasible}
use Rattle.lp_model.specs.Reductions.{Reduces, ReducesPairs, Priced}
use Rattle.lp_theory.proofs.Carrying.{Carries, pairs_of}
use Rattle.lp_theory.proofs.Pairs.{some_inj}
use Rattle.lp_theory.proofs.Steps.{fewer_points}
use Rattle.lp_columns.specs.BestPlace.{column_fixed_at}
use Rattle.lp_columns.specs.DominatedColumn.{IsDominatedColumn, dominated_column_fixed}
use Rattle.lp_columns.proofs.Held.{apart_low, held_back, held_pair}
use Rattle.lp_columns.proofs.Shifts.{not_up, not_down, less_than, more_than, at_least_more, shifted, up_by_down, down_by_down, sum_not_negative}
use Rattle.lp_theory.proofs.GapSteps.{gaps_moved}

-- an end is none where it can be no number
none_of : (o : Option Number) → ((e : Number) → o ≡ Some e → ⊥) → o ≡ None
none_of None f = refl
none_of (Some e) f = absurd (f e refl)

above_of : (p q : Number) → zero_ℚ <ℚ (p -ℚ q) → p ≤ℚ q → ⊥
above_of p q h k = <ℚ-not h (not_up p q k)

below_of : (p q : Number) → (p -ℚ q) <ℚ zero_ℚ → q ≤ℚ p → ⊥
below_of p q h k = <ℚ-not h (not_down p q k)

module _ (M : LinearProgram) (j k : ℕ) (b : Number) (d : IsDominatedColumn M j k b) where
  kj : k ≢ j
  kj m = d.differ (sym m)

  within : Between (M.lower_bound k) (M.upper_bound k) b
  within = apart_low (M.lower_bound k) (M.upper_bound k) b (λ l u e f. subst (λ c. c <ℚ u) (some_inj (sym d.lower ∙ e)) (d.apart u f)) d.lower

  -- column k at b, and column j moved by what it gave up
  abbrev moved : Vector → Vector
  moved w = put (put w j (w j -ℚ (b -ℚ w k))) k b

  at_first : (w : Vector) → moved w j ≡ w j -ℚ (b -ℚ w k)
  at_first w = put-other (put w j (w j -ℚ (b -ℚ w k))) k b j d.differ ∙ put-same w j (w j -ℚ (b -ℚ w k))

  at_other : (w : Vector) (p : ℕ) → p ≢ j → p ≢ k → moved w p ≡ w p
  at_other w p nj nk = put-other (put w j (w j -ℚ (b -ℚ w k))) k b p nk ∙ put-other w j (w j -ℚ (b -ℚ w k)) p nj

  sum_moved : (f : ℕ → Number) (w : Vector) → total M.columns (λ p. f p *ℚ moved w p) ≡ total M.columns (λ p. f p *ℚ w p) +ℚ (f k -ℚ f j) *ℚ (b -ℚ w k)
  sum_moved f w = total-put_point M.columns f (put w j (w j -ℚ (b -ℚ w k))) k b d.second
      ∙ ap₂ (λ t y. t +ℚ f k *ℚ (b -ℚ y)) (total-put_point M.columns f w j (w j -ℚ (b -ℚ w k)) d.first) (put-other w j (w j -ℚ (b -ℚ w k)) k kj)
      ∙ ring rational (total M.columns (λ p. f p *ℚ w p) ∷ f j ∷ f k ∷ w j ∷ w k ∷ b ∷ []) (v 0 :+ v 1 :* ((v 3 :- (v 5 :- v 4)) :- v 3) :+ v 2 :* (v 5 :- v 4)) (v 0 :+ (v 2 :- v 1) :* (v 5 :- v 4)) refl

  falls : (w : Vector) → Feasible M w → (b -ℚ w k) ≤ℚ zero_ℚ
  falls w h = not_up b (w k) (subst (λ o. AtLeast o (w k)) d.lower (h.columns k d.second).low)

  difference_whole : (p q : Number) → IsWhole p → IsWhole q → IsWhole (p -ℚ q)
  difference_whole p q h m = IsWhole-+ℚ h (IsWhole-neg_ℚ m)

  first_in : (w : Vector) → Feasible M w → Between (M.lower_bound j) (M.upper_bound j) (w j -ℚ (b -ℚ w k))
  first_in w h = record {
    low = at_least_more (M.lower_bound j) (w j) (w j -ℚ (b -ℚ w k)) (linear (w j ∷ (b -ℚ w k) ∷ []) (fact 1 (v 1) (num (pos 0)) ∷ []) 0 (v 0) (v 0 :- v 1) (falls w h, tt) refl) (h.columns j d.first).low;
    high = subst (λ o. AtMost o (w j -ℚ (b -ℚ w k))) (sym d.endless) tt;
  }

  kept : (w : Vector) → Feasible M w → Feasible (column_fixed_at M k b) (moved w)
  kept w h = record {
    rows = λ i m. subst (Between (M.lower_side i) (M.upper_side i)) (sym (sum_moved (M.coefficient i) w))
        (shifted (M.lower_side i) (M.upper_side i) (value_at M i w) ((M.coefficient i k -ℚ M.coefficient i j) *ℚ (b -ℚ w k))
        (λ q. none_of (M.lower_side i) (λ L e. above_of _ _ (up_by_down (M.coefficient i k -ℚ M.coefficient i j) (b -ℚ w k) (falls w h) q) (d.above i m L e)))
        (λ q. none_of (M.upper_side i) (λ U e. below_of _ _ (down_by_down (M.coefficient i k -ℚ M.coefficient i j) (b -ℚ w k) (falls w h) q) (d.below i m U e)))
        (h.rows i m));
    columns = at_or_off (λ p. p < M.columns → Between (put M.lower_bound k (Some b) p) (put M.upper_bound k (Some b) p) (moved w p)) k
        (λ m. rw (put-same M.lower_bound, put-same M.upper_bound, put-same (put w j (w j -ℚ (b -ℚ w k)))) (record { low = ≤ℚ_refl b; high = ≤ℚ_refl b }))
        (λ p nk m. rw (put-other M.lower_bound k (Some b) p nk, put-other M.upper_bound k (Some b) p nk) (at_or_off (λ p. p ≢ k → p < M.columns → Between (M.lower_bound p) (M.upper_bound p) (moved w p)) j
        (λ nk m. subst (Between (M.lower_bound j) (M.upper_bound j)) (sym (at_first w)) (first_in w h))
        (λ p nj nk m. subst (Between (M.lower_bound p) (M.upper_bound p)) (sym (at_other w p nj nk)) (h.columns p m)) p nk m));
    whole = at_or_off (λ p. p < M.columns → IsTrue (M.whole p) → IsWhole (moved w p)) k
        (λ m t. subst IsWhole (sym (put-same (put w j (w j -ℚ (b -ℚ w k))) k b)) (d.whole t))
        (λ p nk m t. at_or_off (λ p. p ≢ k → p < M.columns → IsTrue (M.whole p) → IsWhole (moved w p)) j
        (λ nk m t. subst IsWhole (sym (at_first w)) (difference_whole (w j) (b -ℚ w k) (h.whole j m t) (difference_whole b (w k) (d.whole (d.both_whole t)) (h.whole k d.second (d.both_whole t)))))
        (λ p nj nk m t. subst IsWhole (sym (at_other w p nj nk)) (h.whole p m t)) p nk m t);
    gaps = gaps_moved M k (put w j (w j -ℚ (b -ℚ w k))) b d.second_solid (gaps_moved M j w (w j -ℚ (b -ℚ w k)) d.first_solid h.gaps);
  }

  cheaper : (w : Vector) → Feasible M w → cost_at M (moved w) ≤ℚ cost_at M w
  cheaper w h = linear (total M.columns (λ p. M.costs p *ℚ moved w p) ∷ total M.columns (λ p. M.costs p *ℚ w p) ∷ M.constant ∷ []) (fact 1 (v 0) (v 1) ∷ []) 0 (v 0 :+ v 2) (v 1 :+ v 2) (
    subst (λ c. c ≤ℚ total M.columns (λ p. M.costs p *ℚ w p)) (sym (sum_moved M.costs w))
        (less_than (total M.columns (λ p. M.costs p *ℚ w p)) ((M.costs k -ℚ M.costs j) *ℚ (b -ℚ w k)) (*ℚ_pos_neg (not_down (M.costs k) (M.costs j) d.costs) (falls w h))),
    tt,
  ) refl

  pub dominated_column : Reduces Min M (dominated_column_fixed M k b) (λ x. x) zero_ℚ
  dominated_column = fewer_points Min M (column_fixed_at M k b) (λ x. refl) (held_back M k b d.second within) (λ w h. (moved w, kept w h, cheaper w h))

  -- ---- pairs: z_k is not less than z_j, and z_j is not negative
  first_price : (p : Priced) → Carries (column_fixed_at M k b) p → zero_ℚ ≤ℚ p.z j
  first_price p h = elim (≤ℚ_cases zero_ℚ (p.z j)) [
    | inl q ↦ q
    | inr q ↦ absurd (let r = sym d.endless ∙ sym (put-other M.upper_bound k (Some b) j d.differ) ∙ h.at_high j d.first q in cc)
  ]

  term_paid : (p : Priced) (i : ℕ) → Carries (column_fixed_at M k b) p → i < M.rows → zero_ℚ ≤ℚ (p.y i *ℚ (M.coefficient i j -ℚ M.coefficient i k))
  term_paid p i h m = elim (≤ℚ_cases (p.y i) zero_ℚ) [
    | inr q ↦ *ℚ_pos (<ℚ-≤ℚ q) (not_down (M.coefficient i j) (M.coefficient i k) (d.above i m (value_at M i p.x) (h.pays_low i m q)))
    | inl n ↦ elim (≤ℚ_cases zero_ℚ (p.y i)) [
      | inr q ↦ *ℚ_neg n (not_up (M.coefficient i j) (M.coefficient i k) (d.below i m (value_at M i p.x) (h.pays_high i m q)))
      | inl q ↦ ≤ℚ-same (ring rational ((M.coefficient i j -ℚ M.coefficient i k) ∷ []) (num (pos 0)) (num (pos 0) :* v 0) refl ∙ ap (λ c. c *ℚ (M.coefficient i j -ℚ M.coefficient i k)) (≤ℚ_antisym q n))
    ]
  ]

  second_price : (p : Priced) → Carries (column_fixed_at M k b) p → zero_ℚ ≤ℚ p.z k
  second_price p h =
      let on_j : Number = total M.rows (λ i. p.y i *ℚ M.coefficient i j) in
      let on_k : Number = total M.rows (λ i. p.y i *ℚ M.coefficient i k) in
      let split : on_j ≡ total M.rows (λ i. p.y i *ℚ (M.coefficient i j -ℚ M.coefficient i k)) +ℚ on_k
      = total_same M.rows _ (λ i. p.y i *ℚ (M.coefficient i j -ℚ M.coefficient i k) +ℚ p.y i *ℚ M.coefficient i k) (λ i m. ring rational (p.y i ∷ M.coefficient i j ∷ M.coefficient i k ∷ []) (v 0 :* v 1) (v 0 :* (v 1 :- v 2) :+ v 0 :* v 2) refl)
      ∙ total-+ M.rows (λ i. p.y i *ℚ (M.coefficient i j -ℚ M.coefficient i k)) (λ i. p.y i *ℚ M.coefficient i k) in
      let more : on_k ≤ℚ on_j = subst (λ c. on_k ≤ℚ c) (+ℚ_comm on_k _ ∙ sym split) (more_than on_k _ (sum_not_negative M.rows _ (λ i m. term_paid p i h m))) in
      subst (λ z. zero_ℚ ≤ℚ z) (sym (h.left k d.second))
      (linear (M.costs j ∷ M.costs k ∷ on_j ∷ on_k ∷ []) (fact 1 (v 0) (v 1) ∷ fact 1 (v 3) (v 2) ∷ fact 1 (num (pos 0)) (v 0 :- v 2) ∷ []) 0 (num (pos 0)) (v 1 :- v 3)
      (d.costs, (more, (subst (λ z. zero_ℚ ≤ℚ z) (h.left j d.first) (first_price p h), tt))) refl)

  pub dominated_column_pairs : ReducesPairs Min M (dominated_column_fixed M k b) (λ p. p)
  dominated_column_pairs = pairs_of M (column_fixed_at M k b) (λ p. p) (record { carries = λ p h. held_pair M k b d.second within p h (λ q. d.lower) (λ q. absurd (<ℚ-not q (second_price p h))) })
