-- Bounds that a row implies.
use Rattle.std.proofs.Common.{◌≡◌, ◌≢◌, ℕ, ◌<◌, pos, sym, refl, ap, ◌∙◌, [], ◌∷◌, subst, Option, Some, None, Bool, true, false, not, ◌&&◌}
use Rattle.std.specs.Prelude.{if◌then◌else◌}
use Rattle.std.proofs.lemmas.Bool.{and_parts}
use Rattle.fractions.specs.Ring.{ring, v, num, ◌:+◌, ◌:-◌, ◌:*◌}
use Rattle.fractions.specs.Number.{Number, rational, zero_ℚ, ◌+ℚ◌, ◌-ℚ◌, ◌*ℚ◌}
use Rattle.fractions.specs.Order.{◌≤ℚ◌, ◌<ℚ◌, ≤ℚ_antisym, ≤ℚ-by, ≤ℚ-*ℚ, <ℚ-≤ℚ, <ℚ-not}
use Rattle.fractions.specs.Linear.{linear, fact}
use Rattle.fractions.specs.Compare.{lt_ℚ}
use Rattle.fractions.specs.Division.{◌/ℚ◌}
use Rattle.fractions.specs.Total.{put}
use Rattle.fractions.specs.Ends.{AtLeast, AtMost, Between, over, minus_ends, same_end}
use Rattle.fractions.proofs.Totals.{put-same, put-other, at_or_off}
use Rattle.fractions.specs.Signs.{≤ℚ-same, ≤ℚ-*ℚ_down, over-times}
use Rattle.fractions.proofs.EndLaws.{same_end-is}
use Rattle.lp_model.specs.declared.program.Sense.{Sense}
use Rattle.lp_model.specs.declared.program.Sense.TheVariants.{Min}
use Rattle.lp_model.specs.Vectors.{Vector}
use Rattle.lp_model.specs.LinearProgram.{LinearProgram, value_at, Feasible}
use Rattle.lp_model.specs.Reductions.{Reduces, Priced, ReducesPairs}
use Rattle.lp_theory.specs.Activities.{least_rest, greatest_rest}
use Rattle.lp_model.specs.Edits.{with_bounds}
use Rattle.lp_theory.specs.Reached.{rest_at, IsAtLeastEnd, IsAtGreatestEnd}
use Rattle.lp_theory.proofs.ActivityLaws.{lt_true, value-rest, least_rest-value, greatest_rest-value}
use Rattle.lp_theory.proofs.Carrying.{Carries, pairs_of}
use Rattle.lp_theory.proofs.MetEndLaws.{below_zero, quotient_up, quotient_up', quotient_down, quotient_down', and_false, lt_is}
use Rattle.lp_theory.proofs.Pairs.{below_if_not, not_below, bounded, moved, transfer, still_low, still_high, some_inj}
use Rattle.lp_theory.proofs.Reaching.{least_rest_reached, greatest_rest_reached}
use Rattle.lp_theory.proofs.RowBounds.{at_least_from, at_most_from, low-pos, high-pos, low-neg, high-neg}
use Rattle.lp_theory.proofs.Steps.{same_bounds}
use Rattle.lp_rows.specs.BoundTightening.{implied_lower, implied_upper, IsLowerBoundTightening, IsUpperBoundTightening, lower_bound_tightened, upper_bound_tightened, handed_to_row, undo_lower_bound_tightened, undo_upper_bound_tightened}

-- ---- each feasible point keeps the implied bounds
implied_lower-is : (M : LinearProgram) (i j : ℕ) (x : Vector) → Feasible M x → i < M.rows → j < M.columns → M.coefficient i j ≢ zero_ℚ → AtLeast (implied_lower M i j) (x j)
implied_lower-is M i j x h li lj n = by (lt_ℚ zero_ℚ (M.coefficient i j)) refl
  where
    by : (s : Bool) → lt_ℚ zero_ℚ (M.coefficient i j) ≡ s
        → AtLeast (if s then over (minus_ends (M.lower_side i) (greatest_rest M i j)) (M.coefficient i j) else over (minus_ends (M.upper_side i) (least_rest M i j)) (M.coefficient i j)) (x j)
    by true e = low-pos (M.coefficient i j) (x j) (rest_at M i j x) (M.lower_side i) (greatest_rest M i j) (lt_true _ _ e) (subst (AtLeast (M.lower_side i)) (value-rest M i j x lj) (h.rows i li).low) (greatest_rest-value M i j x h.columns)
    by false e = low-neg (M.coefficient i j) (x j) (rest_at M i j x) (M.upper_side i) (least_rest M i j) (below_zero _ e n) (subst (AtMost (M.upper_side i)) (value-rest M i j x lj) (h.rows i li).high) (least_rest-value M i j x h.columns)

implied_upper-is : (M : LinearProgram) (i j : ℕ) (x : Vector) → Feasible M x → i < M.rows → j < M.columns → M.coefficient i j ≢ zero_ℚ → AtMost (implied_upper M i j) (x j)
implied_upper-is M i j x h li lj n = by (lt_ℚ zero_ℚ (M.coefficient i j)) refl
  where
    by : (s : Bool) → lt_ℚ zero_ℚ (M.coefficient i j) ≡ s
        → AtMost (if s then over (minus_ends (M.upper_side i) (least_rest M i j)) (M.coefficient i j) else over (minus_ends (M.lower_side i) (greatest_rest M i j)) (M.coefficient i j)) (x j)
    by true e = high-pos (M.coefficient i j) (x j) (rest_at M i j x) (M.upper_side i) (least_rest M i j) (lt_true _ _ e) (subst (AtMost (M.upper_side i)) (value-rest M i j x lj) (h.rows i li).high) (least_rest-value M i j x h.columns)
    by false e = high-neg (M.coefficient i j) (x j) (rest_at M i j x) (M.lower_side i) (greatest_rest M i j) (below_zero _ e n) (subst (AtLeast (M.lower_side i)) (value-rest M i j x lj) (h.rows i li).low) (greatest_rest-value M i j x h.columns)

bounds_at : (M : LinearProgram) (j : ℕ) (l u : Option Number) (x : Vector) → Between (put M.lower_bound j l j) (put M.upper_bound j u j) (x j) → Between l u (x j)
bounds_at M j l u x b = rw (put-same M.lower_bound j l, put-same M.upper_bound j u) at b

pub lower_bound_implied : (d : Sense) (M : LinearProgram) (i j : ℕ) → IsLowerBoundTightening M i j → Reduces d M (lower_bound_tightened M i j) (λ x. x) zero_ℚ
lower_bound_implied d M i j t = same_bounds d M j (implied_lower M i j) (M.upper_bound j)
    (λ x h l. let b = bounds_at M j (implied_lower M i j) (M.upper_bound j) x (h.columns j l) in record { low = at_least_from (M.lower_bound j) (implied_lower M i j) (x j) t.better b.low; high = b.high })
    (λ x h l. record { low = implied_lower-is M i j x h t.row l t.entry; high = (h.columns j l).high })

pub upper_bound_implied : (d : Sense) (M : LinearProgram) (i j : ℕ) → IsUpperBoundTightening M i j → Reduces d M (upper_bound_tightened M i j) (λ x. x) zero_ℚ
upper_bound_implied d M i j t = same_bounds d M j (M.lower_bound j) (implied_upper M i j)
    (λ x h l. let b = bounds_at M j (M.lower_bound j) (implied_upper M i j) x (h.columns j l) in record { low = b.low; high = at_most_from (M.upper_bound j) (implied_upper M i j) (x j) t.better b.high })
    (λ x h l. record { low = (h.columns j l).low; high = implied_upper-is M i j x h t.row l t.entry })

-- ---- at a bound that the row implies its side is met, and the other columns are at their ends
record IsPushed (M : LinearProgram) (i j : ℕ) (x : Vector) : Type 0 where
  side : M.lower_side i ≡ Some (value_at M i x)
  ends : (k : ℕ) → k ≢ j → k < M.columns → IsAtGreatestEnd M i x k

record IsPulled (M : LinearProgram) (i j : ℕ) (x : Vector) : Type 0 where
  side : M.upper_side i ≡ Some (value_at M i x)
  ends : (k : ℕ) → k ≢ j → k < M.columns → IsAtLeastEnd M i x k

over_some : (o : Option Number) (a x : Number) → over o a ≡ Some x → (c : Number) × (o ≡ Some c) × (c /ℚ a ≡ x)
over_some None a x e = cc
over_some (Some c) a x e = (c, refl, some_inj e)

minus_some : (p q : Option Number) (c : Number) → minus_ends p q ≡ Some c → (a : Number) × (b : Number) × (p ≡ Some a) × (q ≡ Some b) × (a -ℚ b ≡ c)
minus_some None q c e = cc
minus_some (Some a) None c e = cc
minus_some (Some a) (Some b) c e = (a, b, refl, refl, some_inj e)

pushed : (M : LinearProgram) (i j : ℕ) (x : Vector) → Feasible M x → i < M.rows → j < M.columns → M.coefficient i j ≢ zero_ℚ → over (minus_ends (M.lower_side i) (greatest_rest M i j)) (M.coefficient i j) ≡ Some (x j) → IsPushed M i j x
pushed M i j x f li lj n e =
    let o = over_some (minus_ends (M.lower_side i) (greatest_rest M i j)) (M.coefficient i j) (x j) e in
    let m = minus_some (M.lower_side i) (greatest_rest M i j) o.0 o.1 in
    let at : m.0 -ℚ m.1 ≡ M.coefficient i j *ℚ x j = m.4 ∙ sym (over-times (M.coefficient i j) o.0 n) ∙ ap (λ c. M.coefficient i j *ℚ c) o.2 in
    let low : m.0 ≤ℚ value_at M i x = subst (λ s. AtLeast s (value_at M i x)) m.2 (f.rows i li).low in
    let most : rest_at M i j x ≤ℚ m.1 = subst (λ s. AtMost s (rest_at M i j x)) m.3 (greatest_rest-value M i j x f.columns) in
    let is : value_at M i x ≡ (m.0 -ℚ m.1) +ℚ rest_at M i j x = value-rest M i j x lj ∙ ap (λ c. c +ℚ rest_at M i j x) (sym at) in
    let reach : m.1 ≤ℚ rest_at M i j x = linear (m.0 ∷ m.1 ∷ rest_at M i j x ∷ []) (fact 1 (v 0) (v 0 :- v 1 :+ v 2) ∷ []) 0 (v 1) (v 2) (subst (λ c. m.0 ≤ℚ c) is low, tt) refl in
    record {
      side = m.2 ∙ ap Some (≤ℚ_antisym low (linear (value_at M i x ∷ m.0 ∷ m.1 ∷ rest_at M i j x ∷ []) (fact 1 (v 0) (v 1 :- v 2 :+ v 3) ∷ fact 1 (v 3) (v 2) ∷ []) 0 (v 0) (v 1) (≤ℚ-same is, (most, tt)) refl));
      ends = greatest_rest_reached M i j x (λ k ne l. f.columns k l) (m.3 ∙ ap Some (≤ℚ_antisym reach most));
    }

pulled : (M : LinearProgram) (i j : ℕ) (x : Vector) → Feasible M x → i < M.rows → j < M.columns → M.coefficient i j ≢ zero_ℚ → over (minus_ends (M.upper_side i) (least_rest M i j)) (M.coefficient i j) ≡ Some (x j) → IsPulled M i j x
pulled M i j x f li lj n e =
    let o = over_some (minus_ends (M.upper_side i) (least_rest M i j)) (M.coefficient i j) (x j) e in
    let m = minus_some (M.upper_side i) (least_rest M i j) o.0 o.1 in
    let at : m.0 -ℚ m.1 ≡ M.coefficient i j *ℚ x j = m.4 ∙ sym (over-times (M.coefficient i j) o.0 n) ∙ ap (λ c. M.coefficient i j *ℚ c) o.2 in
    let high : value_at M i x ≤ℚ m.0 = subst (λ s. AtMost s (value_at M i x)) m.2 (f.rows i li).high in
    let most : m.1 ≤ℚ rest_at M i j x = subst (λ s. AtLeast s (rest_at M i j x)) m.3 (least_rest-value M i j x f.columns) in
    let is : value_at M i x ≡ (m.0 -ℚ m.1) +ℚ rest_at M i j x = value-rest M i j x lj ∙ ap (λ c. c +ℚ rest_at M i j x) (sym at) in
    let reach : rest_at M i j x ≤ℚ m.1 = linear (m.0 ∷ m.1 ∷ rest_at M i j x ∷ []) (fact 1 (v 0 :- v 1 :+ v 2) (v 0) ∷ []) 0 (v 2) (v 1) (subst (λ c. c ≤ℚ m.0) is high, tt) refl in
    record {
      side = m.2 ∙ ap Some (≤ℚ_antisym (linear (value_at M i x ∷ m.0 ∷ m.1 ∷ rest_at M i j x ∷ []) (fact 1 (v 1 :- v 2 :+ v 3) (v 0) ∷ fact 1 (v 2) (v 3) ∷ []) 0 (v 1) (v 0) (≤ℚ-same (sym is), (most, tt)) refl) high);
      ends = least_rest_reached M i j x (λ k ne l. f.columns k l) (m.3 ∙ ap Some (≤ℚ_antisym most reach));
    }

-- ---- the sign of a factor, from that of the product
factor_pos : (a d : Number) → zero_ℚ ≤ℚ d → zero_ℚ <ℚ (a *ℚ d) → zero_ℚ <ℚ a
factor_pos a d h k = below_if_not (λ t. <ℚ-not k (≤ℚ-by (d *ℚ a) (d *ℚ zero_ℚ) (a *ℚ d) zero_ℚ (ring rational (a ∷ d ∷ []) (v 1 :* num (pos 0) :- v 1 :* v 0) (num (pos 0) :- v 0 :* v 1) refl) (≤ℚ-*ℚ d h t)))

factor_neg : (a d : Number) → zero_ℚ ≤ℚ d → (a *ℚ d) <ℚ zero_ℚ → a <ℚ zero_ℚ
factor_neg a d h k = below_if_not (λ t. <ℚ-not k (≤ℚ-by (d *ℚ zero_ℚ) (d *ℚ a) zero_ℚ (a *ℚ d) (ring rational (a ∷ d ∷ []) (v 1 :* v 0 :- v 1 :* num (pos 0)) (v 0 :* v 1 :- num (pos 0)) refl) (≤ℚ-*ℚ d h t)))

factor_pos' : (a d : Number) → d ≤ℚ zero_ℚ → zero_ℚ <ℚ (a *ℚ d) → a <ℚ zero_ℚ
factor_pos' a d h k = below_if_not (λ t. <ℚ-not k (≤ℚ-by (d *ℚ a) (d *ℚ zero_ℚ) (a *ℚ d) zero_ℚ (ring rational (a ∷ d ∷ []) (v 1 :* num (pos 0) :- v 1 :* v 0) (num (pos 0) :- v 0 :* v 1) refl) (≤ℚ-*ℚ_down d h t)))

factor_neg' : (a d : Number) → d ≤ℚ zero_ℚ → (a *ℚ d) <ℚ zero_ℚ → zero_ℚ <ℚ a
factor_neg' a d h k = below_if_not (λ t. <ℚ-not k (≤ℚ-by (d *ℚ zero_ℚ) (d *ℚ a) zero_ℚ (a *ℚ d) (ring rational (a ∷ d ∷ []) (v 1 :* v 0 :- v 1 :* num (pos 0)) (v 0 :* v 1 :- num (pos 0)) refl) (≤ℚ-*ℚ_down d h t)))

-- ---- the row takes z_j over
-- bounds that differ at j alone
record AreSameOff (M : LinearProgram) (l u : ℕ → Option Number) (j : ℕ) : Type 0 where
  low : (k : ℕ) → k ≢ j → l k ≡ M.lower_bound k
  high : (k : ℕ) → k ≢ j → u k ≡ M.upper_bound k

off_put : (M : LinearProgram) (j : ℕ) (l u : Option Number) → AreSameOff M (put M.lower_bound j l) (put M.upper_bound j u) j
off_put M j l u = record { low = λ k n. put-other M.lower_bound j l k n; high = λ k n. put-other M.upper_bound j u k n }

move_up : (M : LinearProgram) (l u : ℕ → Option Number) (i j : ℕ) (d : Number) (p : Priced) → i < M.rows → Carries (bounded M l u) p → Feasible M p.x → AreSameOff M l u j → zero_ℚ ≤ℚ d → IsPushed M i j p.x
    → p.z j -ℚ M.coefficient i j *ℚ d ≡ zero_ℚ → Carries M (moved i (M.coefficient i) d p)
move_up M l u i j d p li h f off up q none = transfer M l u i d p li h f (λ r. q.side) (λ r. absurd (<ℚ-not r up))
    (at_or_off (λ k. k < M.columns → zero_ℚ <ℚ (p.z k -ℚ M.coefficient i k *ℚ d) → M.lower_bound k ≡ Some (p.x k)) j
    (λ m r. absurd (not_below (subst (λ z. zero_ℚ <ℚ z) none r)))
    (λ k n m r. still_low (p.z k) (M.coefficient i k *ℚ d) (p.x k) (M.lower_bound k) (λ z. sym (off.low k n) ∙ h.at_low k m z) (λ e. (q.ends k n m).low (factor_neg _ d up e)) r))
    (at_or_off (λ k. k < M.columns → (p.z k -ℚ M.coefficient i k *ℚ d) <ℚ zero_ℚ → M.upper_bound k ≡ Some (p.x k)) j
    (λ m r. absurd (not_below (subst (λ z. z <ℚ zero_ℚ) none r)))
    (λ k n m r. still_high (p.z k) (M.coefficient i k *ℚ d) (p.x k) (M.upper_bound k) (λ z. sym (off.high k n) ∙ h.at_high k m z) (λ e. (q.ends k n m).high (factor_pos _ d up e)) r))

move_down : (M : LinearProgram) (l u : ℕ → Option Number) (i j : ℕ) (d : Number) (p : Priced) → i < M.rows → Carries (bounded M l u) p → Feasible M p.x → AreSameOff M l u j → d ≤ℚ zero_ℚ → IsPulled M i j p.x
    → p.z j -ℚ M.coefficient i j *ℚ d ≡ zero_ℚ → Carries M (moved i (M.coefficient i) d p)
move_down M l u i j d p li h f off down q none = transfer M l u i d p li h f (λ r. absurd (<ℚ-not r down)) (λ r. q.side)
    (at_or_off (λ k. k < M.columns → zero_ℚ <ℚ (p.z k -ℚ M.coefficient i k *ℚ d) → M.lower_bound k ≡ Some (p.x k)) j
    (λ m r. absurd (not_below (subst (λ z. zero_ℚ <ℚ z) none r)))
    (λ k n m r. still_low (p.z k) (M.coefficient i k *ℚ d) (p.x k) (M.lower_bound k) (λ z. sym (off.low k n) ∙ h.at_low k m z) (λ e. (q.ends k n m).low (factor_neg' _ d down e)) r))
    (at_or_off (λ k. k < M.columns → (p.z k -ℚ M.coefficient i k *ℚ d) <ℚ zero_ℚ → M.upper_bound k ≡ Some (p.x k)) j
    (λ m r. absurd (not_below (subst (λ z. z <ℚ zero_ℚ) none r)))
    (λ k n m r. still_high (p.z k) (M.coefficient i k *ℚ d) (p.x k) (M.upper_bound k) (λ z. sym (off.high k n) ∙ h.at_high k m z) (λ e. (q.ends k n m).high (factor_pos' _ d down e)) r))

used_up : (a z : Number) → a ≢ zero_ℚ → z -ℚ a *ℚ (z /ℚ a) ≡ zero_ℚ
used_up a z n = ap (λ c. z -ℚ c) (over-times a z n) ∙ ring rational (z ∷ []) (v 0 :- v 0) (num (pos 0)) refl

lower_moved : (M : LinearProgram) (i j : ℕ) (p : Priced) → IsLowerBoundTightening M i j → Carries (lower_bound_tightened M i j) p → Feasible M p.x → zero_ℚ <ℚ p.z j → Carries M (handed_to_row i j (M.coefficient i) p)
lower_moved M i j p t h f z = by (lt_ℚ zero_ℚ (M.coefficient i j)) refl (sym (put-same M.lower_bound j (implied_lower M i j)) ∙ h.at_low j t.column z)
  where
    by : (s : Bool) → lt_ℚ zero_ℚ (M.coefficient i j) ≡ s
        → (if s then over (minus_ends (M.lower_side i) (greatest_rest M i j)) (M.coefficient i j) else over (minus_ends (M.upper_side i) (least_rest M i j)) (M.coefficient i j)) ≡ Some (p.x j)
        → Carries M (handed_to_row i j (M.coefficient i) p)
    by true e q = move_up M _ _ i j (p.z j /ℚ M.coefficient i j) p t.row h f (off_put M j (implied_lower M i j) (M.upper_bound j)) (quotient_up (M.coefficient i j) (p.z j) (lt_true _ _ e) (<ℚ-≤ℚ z))
        (pushed M i j p.x f t.row t.column t.entry q) (used_up (M.coefficient i j) (p.z j) t.entry)
    by false e q = move_down M _ _ i j (p.z j /ℚ M.coefficient i j) p t.row h f (off_put M j (implied_lower M i j) (M.upper_bound j)) (quotient_down' (M.coefficient i j) (p.z j) (below_zero _ e t.entry) (<ℚ-≤ℚ z))
        (pulled M i j p.x f t.row t.column t.entry q) (used_up (M.coefficient i j) (p.z j) t.entry)

upper_moved : (M : LinearProgram) (i j : ℕ) (p : Priced) → IsUpperBoundTightening M i j → Carries (upper_bound_tightened M i j) p → Feasible M p.x → p.z j <ℚ zero_ℚ → Carries M (handed_to_row i j (M.coefficient i) p)
upper_moved M i j p t h f z = by (lt_ℚ zero_ℚ (M.coefficient i j)) refl (sym (put-same M.upper_bound j (implied_upper M i j)) ∙ h.at_high j t.column z)
  where
    by : (s : Bool) → lt_ℚ zero_ℚ (M.coefficient i j) ≡ s
        → (if s then over (minus_ends (M.upper_side i) (least_rest M i j)) (M.coefficient i j) else over (minus_ends (M.lower_side i) (greatest_rest M i j)) (M.coefficient i j)) ≡ Some (p.x j)
        → Carries M (handed_to_row i j (M.coefficient i) p)
    by true e q = move_down M _ _ i j (p.z j /ℚ M.coefficient i j) p t.row h f (off_put M j (M.lower_bound j) (implied_upper M i j)) (quotient_down (M.coefficient i j) (p.z j) (lt_true _ _ e) (<ℚ-≤ℚ z))
        (pulled M i j p.x f t.row t.column t.entry q) (used_up (M.coefficient i j) (p.z j) t.entry)
    by false e q = move_up M _ _ i j (p.z j /ℚ M.coefficient i j) p t.row h f (off_put M j (M.lower_bound j) (implied_upper M i j)) (quotient_up' (M.coefficient i j) (p.z j) (below_zero _ e t.entry) (<ℚ-≤ℚ z))
        (pushed M i j p.x f t.row t.column t.entry q) (used_up (M.coefficient i j) (p.z j) t.entry)

-- ---- z_j stays where it is held by an old bound
stays : (M : LinearProgram) (j : ℕ) (l u : Option Number) (p : Priced) → Carries (with_bounds M j l u) p → Feasible M p.x
    → (zero_ℚ <ℚ p.z j → M.lower_bound j ≡ Some (p.x j)) → (p.z j <ℚ zero_ℚ → M.upper_bound j ≡ Some (p.x j)) → Carries M p
stays M j l u p h f low high = record {
  continuous = h.continuous;
  feasible = f;
  left = h.left;
  pays_low = h.pays_low;
  pays_high = h.pays_high;
  at_low = at_or_off (λ k. k < M.columns → zero_ℚ <ℚ p.z k → M.lower_bound k ≡ Some (p.x k)) j (λ m q. low q) (λ k n m q. sym (put-other M.lower_bound j l k n) ∙ h.at_low k m q);
  at_high = at_or_off (λ k. k < M.columns → p.z k <ℚ zero_ℚ → M.upper_bound k ≡ Some (p.x k)) j (λ m q. high q) (λ k n m q. sym (put-other M.upper_bound j u k n) ∙ h.at_high k m q);
}

pub lower_bound_implied_pairs : (M : LinearProgram) (i j : ℕ) → IsLowerBoundTightening M i j → ReducesPairs Min M (lower_bound_tightened M i j) (undo_lower_bound_tightened i j (M.lower_bound j) (M.coefficient i))
lower_bound_implied_pairs M i j t = pairs_of M (lower_bound_tightened M i j) _ (record { carries = λ p h. by p h ((lower_bound_implied Min M i j t).lifts p.x h.feasible) (lt_ℚ zero_ℚ (p.z j) && not (same_end (M.lower_bound j) (Some (p.x j)))) refl })
  where
    by : (p : Priced) → Carries (lower_bound_tightened M i j) p → Feasible M p.x → (s : Bool) → (lt_ℚ zero_ℚ (p.z j) && not (same_end (M.lower_bound j) (Some (p.x j)))) ≡ s → Carries M (if s then handed_to_row i j (M.coefficient i) p else p)
    by p h f true e = lower_moved M i j p t h f (lt_true _ _ (and_parts (lt_ℚ zero_ℚ (p.z j)) (not (same_end (M.lower_bound j) (Some (p.x j)))) e).0)
    by p h f false e = stays M j (implied_lower M i j) (M.upper_bound j) p h f
        (λ q. (same_end-is (M.lower_bound j) (Some (p.x j))).0 (and_false _ _ e (lt_is _ _ q)))
        (λ q. sym (put-same M.upper_bound j (M.upper_bound j)) ∙ h.at_high j t.column q)

pub upper_bound_implied_pairs : (M : LinearProgram) (i j : ℕ) → IsUpperBoundTightening M i j → ReducesPairs Min M (upper_bound_tightened M i j) (undo_upper_bound_tightened i j (M.upper_bound j) (M.coefficient i))
upper_bound_implied_pairs M i j t = pairs_of M (upper_bound_tightened M i j) _ (record { carries = λ p h. by p h ((upper_bound_implied Min M i j t).lifts p.x h.feasible) (lt_ℚ (p.z j) zero_ℚ && not (same_end (M.upper_bound j) (Some (p.x j)))) refl })
  where
    by : (p : Priced) → Carries (upper_bound_tightened M i j) p → Feasible M p.x → (s : Bool) → (lt_ℚ (p.z j) zero_ℚ && not (same_end (M.upper_bound j) (Some (p.x j)))) ≡ s → Carries M (if s then handed_to_row i j (M.coefficient i) p else p)
    by p h f true e = upper_moved M i j p t h f (lt_true _ _ (and_parts (lt_ℚ (p.z j) zero_ℚ) (not (same_end (M.upper_bound j) (Some (p.x j)))) e).0)
    by p h f false e = stays M j (M.lower_bound j) (implied_upper M i j) p h f
        (λ q. sym (put-same M.lower_bound j (M.lower_bound j)) ∙ h.at_low j t.column q)
        (λ q. (same_end-is (M.upper_bound j) (Some (p.x j))).0 (and_false _ _ e (lt_is _ _ q)))
