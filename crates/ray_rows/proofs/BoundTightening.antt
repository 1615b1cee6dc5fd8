-- K8: a bound that a row implied goes back to the row, and to the bounds of its other columns.
use Rattle.std.proofs.Common.{◌≡◌, ◌≢◌, ℕ, ◌<◌, pos, sym, refl, ap, ap₂, ◌∙◌, [], ◌∷◌, subst, Option, Some, None, Bool, true, false, unwrap_or}
use Rattle.std.specs.Prelude.{if◌then◌else◌}
use Rattle.fractions.specs.Ring.{ring, v, num, ◌:+◌, ◌:-◌, ◌:*◌, inv}
use Rattle.fractions.specs.Number.{Number, rational, zero_ℚ, ◌+ℚ◌, ◌-ℚ◌, ◌*ℚ◌, neg_ℚ}
use Rattle.fractions.specs.Order.{◌≤ℚ◌}
use Rattle.fractions.specs.Linear.{linear, fact}
use Rattle.fractions.specs.Compare.{lt_ℚ}
use Rattle.fractions.specs.Inverse.{inv_ℚ}
use Rattle.fractions.specs.Division.{◌/ℚ◌}
use Rattle.fractions.specs.Total.{total, put}
use Rattle.fractions.specs.Ends.{over, minus_ends}
use Rattle.fractions.proofs.Totals.{put-same, put-other, at_or_off, total-put, total-*, total_same}
use Rattle.fractions.specs.Signs.{over-times}
use Rattle.lp_model.specs.Vectors.{Vector}
use Rattle.lp_model.specs.LinearProgram.{LinearProgram}
use Rattle.lp_theory.specs.Activities.{least_terms, greatest_terms, least_rest, greatest_rest}
use Rattle.lp_theory.proofs.ActivityLaws.{lt_true}
use Rattle.lp_theory.proofs.MetEndLaws.{below_zero, quotient_up}
use Rattle.lp_theory.proofs.Pairs.{bounded, some_inj}
use Rattle.lp_rows.specs.BoundTightening.{implied_lower, implied_upper, lower_bound_tightened, upper_bound_tightened}
use Rattle.lp_rays.specs.Ray.{Weights, IsWeight, worth, IsWeighting, StepsBack}
use Rattle.lp_rays.specs.Handing.{pushed_low, pushed_high, pulled_low, pulled_high}
use Rattle.lp_rays.specs.Steps.{push_row, pull_row, ray_lower_bound, ray_upper_bound}
use Rattle.ray_rows.specs.ImpliedBound.{IsImpliedLowerBound, IsImpliedUpperBound}
use Rattle.lp_rays.proofs.Weighing.{worth_none, weight_pos, no_weight}
use Rattle.lp_rays.proofs.Handing.{inv-neg, negative_above}
use Rattle.lp_rays.proofs.Moving.{Moved, steps_of, ColumnMoved, row_takes, stays}
use Rattle.ray_rows.proofs.Ends.{AreNumbers, are_numbers, pushed, pulled}

over_some : (o : Option Number) (a x : Number) → over o a ≡ Some x → (c : Number) × (o ≡ Some c) × (c /ℚ a ≡ x)
over_some None a x e = cc
over_some (Some c) a x e = (c, refl, some_inj e)

minus_some : (p q : Option Number) (c : Number) → minus_ends p q ≡ Some c → (a : Number) × (b : Number) × (p ≡ Some a) × (q ≡ Some b) × (a -ℚ b ≡ c)
minus_some None q c e = cc
minus_some (Some a) None c e = cc
minus_some (Some a) (Some b) c e = (a, b, refl, refl, some_inj e)

pub record IsDifference (L H : Option Number) (a b : Number) : Type 0 where
  pub side : Number
  pub rest : Number
  pub is_side : L ≡ Some side
  pub is_rest : H ≡ Some rest
  pub is : b ≡ (side -ℚ rest) /ℚ a

difference : (L H : Option Number) (a b : Number) → over (minus_ends L H) a ≡ Some b → IsDifference L H a b
difference L H a b e =
    let o = over_some (minus_ends L H) a b e in
    let m = minus_some L H o.0 o.1 in
    record { side = m.0; rest = m.1; is_side = m.2; is_rest = m.3; is = sym (ap (λ c. c /ℚ a) m.4 ∙ o.2) }

-- bounds that differ at j alone
record AreSameOff (M : LinearProgram) (l u : ℕ → Option Number) (j : ℕ) : Type 0 where
  low : (k : ℕ) → k ≢ j → l k ≡ M.lower_bound k
  high : (k : ℕ) → k ≢ j → u k ≡ M.upper_bound k

module _ (M : LinearProgram) (l u : ℕ → Option Number) (i j : ℕ) (off : AreSameOff M l u j) (li : i < M.rows) (lj : j < M.columns) where
  -- the sum of what the other columns give, d times, and what column j gives
  given : (g : Vector) (d x y : Number) → AreNumbers M.columns (put (greatest_terms M i) j (Some zero_ℚ)) g y → total M.columns (put (λ k. d *ℚ g k) j (d *ℚ (x -ℚ y))) ≡ d *ℚ x
  given g d x y n =
      total-put M.columns (λ k. d *ℚ g k) j (d *ℚ (x -ℚ y)) lj
      ∙ ap₂ (λ s c. s -ℚ d *ℚ c +ℚ d *ℚ (x -ℚ y)) (total-* M.columns d g ∙ ap (λ c. d *ℚ c) n.sum) (some_inj (sym (n.each j lj) ∙ put-same (greatest_terms M i) j (Some zero_ℚ)))
      ∙ ring rational (d ∷ x ∷ y ∷ []) (v 0 :* v 2 :- v 0 :* num (pos 0) :+ v 0 :* (v 1 :- v 2)) (v 0 :* v 1) refl

  given' : (g : Vector) (d x y : Number) → AreNumbers M.columns (put (least_terms M i) j (Some zero_ℚ)) g y → total M.columns (put (λ k. neg_ℚ (d *ℚ g k)) j (neg_ℚ (d *ℚ (x -ℚ y)))) ≡ neg_ℚ (d *ℚ x)
  given' g d x y n =
      total-put M.columns (λ k. neg_ℚ (d *ℚ g k)) j (neg_ℚ (d *ℚ (x -ℚ y))) lj
      ∙ ap₂ (λ s c. s -ℚ neg_ℚ (d *ℚ c) +ℚ neg_ℚ (d *ℚ (x -ℚ y)))
      (total_same M.columns _ (λ k. neg_ℚ d *ℚ g k) (λ k r. ring rational (d ∷ g k ∷ []) (inv (v 0 :* v 1)) (inv (v 0) :* v 1) refl) ∙ total-* M.columns (neg_ℚ d) g ∙ ap (λ c. neg_ℚ d *ℚ c) n.sum)
      (some_inj (sym (n.each j lj) ∙ put-same (least_terms M i) j (Some zero_ℚ)))
      ∙ ring rational (d ∷ x ∷ y ∷ []) (inv (v 0) :* v 2 :- inv (v 0 :* num (pos 0)) :+ inv (v 0 :* (v 1 :- v 2))) (inv (v 0 :* v 1)) refl

  push_back : (w : Weights) (d x y p q : Number) → IsWeighting (bounded M l u) w → M.lower_side i ≡ Some x → greatest_rest M i j ≡ Some y → zero_ℚ ≤ℚ d
      → ColumnMoved (M.lower_bound j) (M.upper_bound j) p q (w.p j -ℚ w.q j) (worth (l j) (w.p j) -ℚ worth (u j) (w.q j)) (d *ℚ M.coefficient i j) (d *ℚ (x -ℚ y))
      → Moved M (bounded M l u) w (push_row i j (M.coefficient i) d p q w)
  push_back w d x y p q h side rest up here =
      let n = are_numbers M.columns (put (greatest_terms M i) j (Some zero_ℚ)) y rest in
      let s : Number = w.s i in
      let t : Number = w.t i in
      let e : ((s +ℚ d) -ℚ t) -ℚ (s -ℚ t) ≡ d = ring rational (s ∷ t ∷ d ∷ []) (((v 0 :+ v 2) :- v 1) :- (v 0 :- v 1)) (v 2) refl in
      let r = h.rows i li in
      let P : Vector = put (λ k. pushed_low (M.coefficient i k) d (w.p k)) j p in
      let Q : Vector = put (λ k. pushed_high (M.coefficient i k) d (w.q k)) j q in
      let G : Vector = put (λ k. d *ℚ unwrap_or (put (greatest_terms M i) j (Some zero_ℚ) k) zero_ℚ) j (d *ℚ (x -ℚ y)) in
      subst (λ (T : Vector). Moved M (bounded M l u) w (record { s = put w.s i (s +ℚ d); t = T; p = P; q = Q })) (stays w.t i)
      (row_takes M l u i w (s +ℚ d) t P Q G li h
      (subst (λ o. IsWeight o (s +ℚ d)) (sym side) (linear (s ∷ d ∷ []) (fact 1 (num (pos 0)) (v 0) ∷ fact 1 (num (pos 0)) (v 1) ∷ []) 0 (num (pos 0)) (v 0 :+ v 1) (weight_pos _ _ r.0, (up, tt)) refl))
      r.1
      (at_or_off (λ k. k < M.columns → ColumnMoved (M.lower_bound k) (M.upper_bound k) (P k) (Q k) (w.p k -ℚ w.q k) (worth (l k) (w.p k) -ℚ worth (u k) (w.q k)) ((((s +ℚ d) -ℚ t) -ℚ (s -ℚ t)) *ℚ M.coefficient i k) (G k)) j
      (λ m. rw (e, put-same (λ k. pushed_low (M.coefficient i k) d (w.p k)) j p, put-same (λ k. pushed_high (M.coefficient i k) d (w.q k)) j q, put-same (λ k. d *ℚ unwrap_or (put (greatest_terms M i) j (Some zero_ℚ) k) zero_ℚ) j (d *ℚ (x -ℚ y))) here)
      (λ k o m. rw (e, put-other (λ k. pushed_low (M.coefficient i k) d (w.p k)) j p k o, put-other (λ k. pushed_high (M.coefficient i k) d (w.q k)) j q k o, put-other (λ k. d *ℚ unwrap_or (put (greatest_terms M i) j (Some zero_ℚ) k) zero_ℚ) j (d *ℚ (x -ℚ y)) k o, off.low k o, off.high k o)
      (pushed (M.coefficient i k) d (M.lower_bound k) (M.upper_bound k) (w.p k) (w.q k) (unwrap_or (put (greatest_terms M i) j (Some zero_ℚ) k) zero_ℚ)
      (subst (λ b. IsWeight b (w.p k)) (off.low k o) (h.columns k m).0) (subst (λ b. IsWeight b (w.q k)) (off.high k o) (h.columns k m).1) up
      (sym (put-other (greatest_terms M i) j (Some zero_ℚ) k o) ∙ n.each k m))))
      (given _ d x y n
      ∙ ring rational (s ∷ d ∷ x ∷ worth (M.upper_side i) t ∷ []) (v 1 :* v 2) (((v 0 :+ v 1) :* v 2 :- v 3) :- (v 0 :* v 2 :- v 3)) refl
      ∙ ap (λ o. (worth o (s +ℚ d) -ℚ worth (M.upper_side i) t) -ℚ (worth o s -ℚ worth (M.upper_side i) t)) (sym side)))

  pull_back : (w : Weights) (d x y p q : Number) → IsWeighting (bounded M l u) w → M.upper_side i ≡ Some x → least_rest M i j ≡ Some y → zero_ℚ ≤ℚ d
      → ColumnMoved (M.lower_bound j) (M.upper_bound j) p q (w.p j -ℚ w.q j) (worth (l j) (w.p j) -ℚ worth (u j) (w.q j)) (neg_ℚ (d *ℚ M.coefficient i j)) (neg_ℚ (d *ℚ (x -ℚ y)))
      → Moved M (bounded M l u) w (pull_row i j (M.coefficient i) d p q w)
  pull_back w d x y p q h side rest up here =
      let n = are_numbers M.columns (put (least_terms M i) j (Some zero_ℚ)) y rest in
      let s : Number = w.s i in
      let t : Number = w.t i in
      let e : (k : ℕ) → ((s -ℚ (t +ℚ d)) -ℚ (s -ℚ t)) *ℚ M.coefficient i k ≡ neg_ℚ (d *ℚ M.coefficient i k) = λ k. ring rational (s ∷ t ∷ d ∷ M.coefficient i k ∷ []) (((v 0 :- (v 1 :+ v 2)) :- (v 0 :- v 1)) :* v 3) (inv (v 2 :* v 3)) refl in
      let r = h.rows i li in
      let P : Vector = put (λ k. pulled_low (M.coefficient i k) d (w.p k)) j p in
      let Q : Vector = put (λ k. pulled_high (M.coefficient i k) d (w.q k)) j q in
      let G : Vector = put (λ k. neg_ℚ (d *ℚ unwrap_or (put (least_terms M i) j (Some zero_ℚ) k) zero_ℚ)) j (neg_ℚ (d *ℚ (x -ℚ y))) in
      subst (λ (S : Vector). Moved M (bounded M l u) w (record { s = S; t = put w.t i (t +ℚ d); p = P; q = Q })) (stays w.s i)
      (row_takes M l u i w s (t +ℚ d) P Q G li h
      r.0
      (subst (λ o. IsWeight o (t +ℚ d)) (sym side) (linear (t ∷ d ∷ []) (fact 1 (num (pos 0)) (v 0) ∷ fact 1 (num (pos 0)) (v 1) ∷ []) 0 (num (pos 0)) (v 0 :+ v 1) (weight_pos _ _ r.1, (up, tt)) refl))
      (at_or_off (λ k. k < M.columns → ColumnMoved (M.lower_bound k) (M.upper_bound k) (P k) (Q k) (w.p k -ℚ w.q k) (worth (l k) (w.p k) -ℚ worth (u k) (w.q k)) (((s -ℚ (t +ℚ d)) -ℚ (s -ℚ t)) *ℚ M.coefficient i k) (G k)) j
      (λ m. rw (e j, put-same (λ k. pulled_low (M.coefficient i k) d (w.p k)) j p, put-same (λ k. pulled_high (M.coefficient i k) d (w.q k)) j q, put-same (λ k. neg_ℚ (d *ℚ unwrap_or (put (least_terms M i) j (Some zero_ℚ) k) zero_ℚ)) j (neg_ℚ (d *ℚ (x -ℚ y)))) here)
      (λ k o m. rw (e k, put-other (λ k. pulled_low (M.coefficient i k) d (w.p k)) j p k o, put-other (λ k. pulled_high (M.coefficient i k) d (w.q k)) j q k o, put-other (λ k. neg_ℚ (d *ℚ unwrap_or (put (least_terms M i) j (Some zero_ℚ) k) zero_ℚ)) j (neg_ℚ (d *ℚ (x -ℚ y))) k o, off.low k o, off.high k o)
      (pulled (M.coefficient i k) d (M.lower_bound k) (M.upper_bound k) (w.p k) (w.q k) (unwrap_or (put (least_terms M i) j (Some zero_ℚ) k) zero_ℚ)
      (subst (λ b. IsWeight b (w.p k)) (off.low k o) (h.columns k m).0) (subst (λ b. IsWeight b (w.q k)) (off.high k o) (h.columns k m).1) up
      (sym (put-other (least_terms M i) j (Some zero_ℚ) k o) ∙ n.each k m))))
      (given' _ d x y n
      ∙ ring rational (t ∷ d ∷ x ∷ worth (M.lower_side i) s ∷ []) (inv (v 1 :* v 2)) ((v 3 :- (v 0 :+ v 1) :* v 2) :- (v 3 :- v 0 :* v 2)) refl
      ∙ ap (λ o. (worth (M.lower_side i) s -ℚ worth o (t +ℚ d)) -ℚ (worth (M.lower_side i) s -ℚ worth o t)) (sym side)))

-- ---- what column j gives
module _ (a x y z b : Number) (n : a ≢ zero_ℚ) (is : b ≡ (x -ℚ y) /ℚ a) where
  -- z over a, of the entry and of the difference
  pub share_entry : (z /ℚ a) *ℚ a ≡ z
  share_entry = ring rational (z ∷ a ∷ inv_ℚ a ∷ []) (v 0 :* v 2 :* v 1) (v 1 :* (v 0 :* v 2)) refl ∙ over-times a z n

  pub share_worth : (z /ℚ a) *ℚ (x -ℚ y) ≡ z *ℚ b
  share_worth = ring rational (z ∷ x ∷ y ∷ inv_ℚ a ∷ []) (v 0 :* v 3 :* (v 1 :- v 2)) (v 0 :* ((v 1 :- v 2) :* v 3)) refl ∙ ap (λ c. z *ℚ c) (sym is)

  pub turned_entry : (z /ℚ neg_ℚ a) *ℚ a ≡ neg_ℚ z
  turned_entry = ap (λ c. z *ℚ c *ℚ a) (inv-neg a n) ∙ ring rational (z ∷ a ∷ inv_ℚ a ∷ []) (v 0 :* inv (v 2) :* v 1) (inv (v 0 :* v 2 :* v 1)) refl ∙ ap neg_ℚ share_entry

  pub turned_worth : (z /ℚ neg_ℚ a) *ℚ (x -ℚ y) ≡ neg_ℚ (z *ℚ b)
  turned_worth = ap (λ c. z *ℚ c *ℚ (x -ℚ y)) (inv-neg a n) ∙ ring rational (z ∷ x ∷ y ∷ inv_ℚ a ∷ []) (v 0 :* inv (v 3) :* (v 1 :- v 2)) (inv (v 0 :* v 3 :* (v 1 :- v 2))) refl ∙ ap neg_ℚ share_worth

-- a lower end b with the weight p goes
low_goes : (l u : Option Number) (p q b e g : Number) → IsWeight u q → e ≡ p → g ≡ p *ℚ b → ColumnMoved l u zero_ℚ q (p -ℚ q) (p *ℚ b -ℚ worth u q) e g
low_goes l u p q b e g h x y = record {
  low = no_weight l;
  high = h;
  net = ring rational (p ∷ q ∷ []) (num (pos 0) :- v 1) ((v 0 :- v 1) :- v 0) refl ∙ ap (λ c. (p -ℚ q) -ℚ c) (sym x);
  worths = ap (λ c. c -ℚ worth u q) (worth_none l) ∙ ring rational (worth u q ∷ (p *ℚ b) ∷ []) (num (pos 0) :- v 0) ((v 1 :- v 0) :- v 1) refl ∙ ap (λ c. (p *ℚ b -ℚ worth u q) -ℚ c) (sym y);
}

-- an upper end b with the weight q goes
high_goes : (l u : Option Number) (p q b e g : Number) → IsWeight l p → e ≡ neg_ℚ q → g ≡ neg_ℚ (q *ℚ b) → ColumnMoved l u p zero_ℚ (p -ℚ q) (worth l p -ℚ q *ℚ b) e g
high_goes l u p q b e g h x y = record {
  low = h;
  high = no_weight u;
  net = ring rational (p ∷ q ∷ []) (v 0 :- num (pos 0)) ((v 0 :- v 1) :- inv (v 1)) refl ∙ ap (λ c. (p -ℚ q) -ℚ c) (sym x);
  worths = ap (λ c. worth l p -ℚ c) (worth_none u) ∙ ring rational (worth l p ∷ (q *ℚ b) ∷ []) (v 0 :- num (pos 0)) ((v 0 :- v 1) :- inv (v 1)) refl ∙ ap (λ c. (worth l p -ℚ q *ℚ b) -ℚ c) (sym y);
}

off_put : (M : LinearProgram) (j : ℕ) (l u : Option Number) → AreSameOff M (put M.lower_bound j l) (put M.upper_bound j u) j
off_put M j l u = record { low = λ k n. put-other M.lower_bound j l k n; high = λ k n. put-other M.upper_bound j u k n }

double_neg : (x : Number) → neg_ℚ (neg_ℚ x) ≡ x
double_neg x = ring rational (x ∷ []) (inv (inv (v 0))) (v 0) refl

module _ (M : LinearProgram) (i j : ℕ) where
  lower_back : (t : IsImpliedLowerBound M i j) (w : Weights) → IsWeighting (lower_bound_tightened M i j) w → Moved M (lower_bound_tightened M i j) w (ray_lower_bound i j (M.coefficient i) w)
  lower_back t w h = by (lt_ℚ zero_ℚ (M.coefficient i j)) refl t.implied
    where
      a : Number
      a = M.coefficient i j

      b : Number
      b = t.number

      is_low : put M.lower_bound j (implied_lower M i j) j ≡ Some b
      is_low = put-same M.lower_bound j (implied_lower M i j) ∙ t.implied

      wp : zero_ℚ ≤ℚ w.p j
      wp = weight_pos _ _ (h.columns j t.column).0

      wq : IsWeight (M.upper_bound j) (w.q j)
      wq = subst (λ o. IsWeight o (w.q j)) (put-same M.upper_bound j (M.upper_bound j)) (h.columns j t.column).1

      by : (c : Bool) → lt_ℚ zero_ℚ (M.coefficient i j) ≡ c
          → (if c then over (minus_ends (M.lower_side i) (greatest_rest M i j)) (M.coefficient i j) else over (minus_ends (M.upper_side i) (least_rest M i j)) (M.coefficient i j)) ≡ Some b
          → Moved M (lower_bound_tightened M i j) w (if c then push_row i j (M.coefficient i) (w.p j /ℚ M.coefficient i j) zero_ℚ (w.q j) w else pull_row i j (M.coefficient i) (w.p j /ℚ neg_ℚ (M.coefficient i j)) zero_ℚ (w.q j) w)
      by true e q =
          let f = difference (M.lower_side i) (greatest_rest M i j) (M.coefficient i j) b q in
          push_back M _ _ i j (off_put M j (implied_lower M i j) (M.upper_bound j)) t.row t.column w (w.p j /ℚ M.coefficient i j) f.side f.rest zero_ℚ (w.q j) h f.is_side f.is_rest (quotient_up _ _ (lt_true _ _ e) wp)
          (rw (is_low, put-same M.upper_bound j (M.upper_bound j))
          (low_goes (M.lower_bound j) (M.upper_bound j) (w.p j) (w.q j) b _ _ wq (share_entry (M.coefficient i j) f.side f.rest (w.p j) b t.entry f.is) (share_worth (M.coefficient i j) f.side f.rest (w.p j) b t.entry f.is)))
      by false e q =
          let f = difference (M.upper_side i) (least_rest M i j) (M.coefficient i j) b q in
          pull_back M _ _ i j (off_put M j (implied_lower M i j) (M.upper_bound j)) t.row t.column w (w.p j /ℚ neg_ℚ (M.coefficient i j)) f.side f.rest zero_ℚ (w.q j) h f.is_side f.is_rest (quotient_up _ _ (negative_above _ (below_zero _ e t.entry)) wp)
          (rw (is_low, put-same M.upper_bound j (M.upper_bound j))
          (low_goes (M.lower_bound j) (M.upper_bound j) (w.p j) (w.q j) b _ _ wq (ap neg_ℚ (turned_entry (M.coefficient i j) f.side f.rest (w.p j) b t.entry f.is) ∙ double_neg (w.p j)) (ap neg_ℚ (turned_worth (M.coefficient i j) f.side f.rest (w.p j) b t.entry f.is) ∙ double_neg (w.p j *ℚ b))))

  pub lower_bound_back : IsImpliedLowerBound M i j → StepsBack M (lower_bound_tightened M i j) (ray_lower_bound i j (M.coefficient i))
  lower_bound_back t = steps_of M (lower_bound_tightened M i j) _ (lower_back t)

  upper_back : (t : IsImpliedUpperBound M i j) (w : Weights) → IsWeighting (upper_bound_tightened M i j) w → Moved M (upper_bound_tightened M i j) w (ray_upper_bound i j (M.coefficient i) w)
  upper_back t w h = by (lt_ℚ zero_ℚ (M.coefficient i j)) refl t.implied
    where
      b : Number
      b = t.number

      is_high : put M.upper_bound j (implied_upper M i j) j ≡ Some b
      is_high = put-same M.upper_bound j (implied_upper M i j) ∙ t.implied

      wq : zero_ℚ ≤ℚ w.q j
      wq = weight_pos _ _ (h.columns j t.column).1

      wp : IsWeight (M.lower_bound j) (w.p j)
      wp = subst (λ o. IsWeight o (w.p j)) (put-same M.lower_bound j (M.lower_bound j)) (h.columns j t.column).0

      by : (c : Bool) → lt_ℚ zero_ℚ (M.coefficient i j) ≡ c
          → (if c then over (minus_ends (M.upper_side i) (least_rest M i j)) (M.coefficient i j) else over (minus_ends (M.lower_side i) (greatest_rest M i j)) (M.coefficient i j)) ≡ Some b
          → Moved M (upper_bound_tightened M i j) w (if c then pull_row i j (M.coefficient i) (w.q j /ℚ M.coefficient i j) (w.p j) zero_ℚ w else push_row i j (M.coefficient i) (w.q j /ℚ neg_ℚ (M.coefficient i j)) (w.p j) zero_ℚ w)
      by true e q =
          let f = difference (M.upper_side i) (least_rest M i j) (M.coefficient i j) b q in
          pull_back M _ _ i j (off_put M j (M.lower_bound j) (implied_upper M i j)) t.row t.column w (w.q j /ℚ M.coefficient i j) f.side f.rest (w.p j) zero_ℚ h f.is_side f.is_rest (quotient_up _ _ (lt_true _ _ e) wq)
          (rw (is_high, put-same M.lower_bound j (M.lower_bound j))
          (high_goes (M.lower_bound j) (M.upper_bound j) (w.p j) (w.q j) b _ _ wp (ap neg_ℚ (share_entry (M.coefficient i j) f.side f.rest (w.q j) b t.entry f.is)) (ap neg_ℚ (share_worth (M.coefficient i j) f.side f.rest (w.q j) b t.entry f.is))))
      by false e q =
          let f = difference (M.lower_side i) (greatest_rest M i j) (M.coefficient i j) b q in
          push_back M _ _ i j (off_put M j (M.lower_bound j) (implied_upper M i j)) t.row t.column w (w.q j /ℚ neg_ℚ (M.coefficient i j)) f.side f.rest (w.p j) zero_ℚ h f.is_side f.is_rest (quotient_up _ _ (negative_above _ (below_zero _ e t.entry)) wq)
          (rw (is_high, put-same M.lower_bound j (M.lower_bound j))
          (high_goes (M.lower_bound j) (M.upper_bound j) (w.p j) (w.q j) b _ _ wp (turned_entry (M.coefficient i j) f.side f.rest (w.q j) b t.entry f.is) (turned_worth (M.coefficient i j) f.side f.rest (w.q j) b t.entry f.is)))

  pub upper_bound_back : IsImpliedUpperBound M i j → StepsBack M (upper_bound_tightened M i j) (ray_upper_bound i j (M.coefficient i))
  upper_bound_back t = steps_of M (upper_bound_tightened M i j) _ (upper_back t)
