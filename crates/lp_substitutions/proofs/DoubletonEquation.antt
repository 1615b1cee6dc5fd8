-- A column substituted by an equation of two.
use Rattle.std.proofs.Common.{◌≡◌, ◌≢◌, ℕ, ◌<◌, pos, sym, refl, ap, ap₂, ◌∙◌, [], ◌∷◌, subst, Option, Some, None, Bool, true, false, IsTrue}
use Rattle.std.specs.Prelude.{if◌then◌else◌}
use Rattle.fractions.specs.Ring.{ring, v, num, ◌:+◌, ◌:-◌, ◌:*◌}
use Rattle.fractions.specs.Number.{Number, rational, zero_ℚ, ◌+ℚ◌, ◌-ℚ◌, ◌*ℚ◌}
use Rattle.fractions.specs.Order.{◌≤ℚ◌, ◌<ℚ◌, ≤ℚ_refl, ≤ℚ_antisym, ≤ℚ-by, ≤ℚ-*ℚ, <ℚ-≤ℚ}
use Rattle.fractions.specs.Division.{inv_ℚ, ◌/ℚ◌, *ℚ-inv_ℚ}
use Rattle.fractions.specs.Compare.{lt_ℚ}
use Rattle.fractions.specs.Floor.{IsWhole}
use Rattle.fractions.specs.Total.{total, put}
use Rattle.fractions.specs.Ends.{AtLeast, AtMost, Between, less, meet_low, meet_high}
use Rattle.fractions.proofs.Totals.{put-same, put-other, at_or_off}
use Rattle.fractions.specs.Signs.{≤ℚ-*ℚ_down, times-over, over-times, ≤ℚ-cancel, ≤ℚ-cancel_down}
use Rattle.fractions.proofs.EndLaws.{meet_low-is, meet_high-is}
use Rattle.fractions.proofs.Floors.{IsWhole-+ℚ, IsWhole-*ℚ, IsWhole-neg_ℚ}
use Rattle.lp_model.specs.declared.program.Sense.{Sense}
use Rattle.lp_model.specs.Vectors.{Vector}
use Rattle.lp_model.specs.LinearProgram.{LinearProgram, value_at, cost_at, Feasible}
use Rattle.lp_model.specs.Reductions.{Reduces}
use Rattle.lp_theory.proofs.ActivityLaws.{lt_true}
use Rattle.lp_theory.proofs.Steps.{no_worse_same}
use Rattle.lp_substitutions.specs.DoubletonEquation.{IsDoubletonEquation, image, image_lower, image_upper, doubleton_equation_substituted, doubleton_equation_offset, undo_doubleton_equation}
use Rattle.lp_theory.specs.Elsewhere.{substituted}
use Rattle.lp_theory.proofs.Elsewhere.{put_back, less_out, less_in, two_terms, total-substituted}
use Rattle.lp_theory.proofs.MetEndLaws.{below_zero}
use Rattle.lp_theory.proofs.GapSteps.{gaps_moved, gaps_off, gaps_back}

IsWhole-- : {p q : Number} → IsWhole p → IsWhole q → IsWhole (p -ℚ q)
IsWhole-- m n = IsWhole-+ℚ m (IsWhole-neg_ℚ n)

-- (r - a v) / b against x_k = (r - a x_j) / b
module _ (a b r x y : Number) (on : y ≡ (r -ℚ a *ℚ x) /ℚ b) where
  shift : (u : Number) → y -ℚ ((r -ℚ a *ℚ u) /ℚ b) ≡ (a /ℚ b) *ℚ u -ℚ (a /ℚ b) *ℚ x
  shift u = ap (λ c. c -ℚ ((r -ℚ a *ℚ u) /ℚ b)) on ∙ ring rational (a ∷ inv_ℚ b ∷ r ∷ x ∷ u ∷ []) ((v 2 :- v 0 :* v 3) :* v 1 :- (v 2 :- v 0 :* v 4) :* v 1) ((v 0 :* v 1) :* v 4 :- (v 0 :* v 1) :* v 3) refl

  shift' : (u : Number) → ((r -ℚ a *ℚ u) /ℚ b) -ℚ y ≡ (a /ℚ b) *ℚ x -ℚ (a /ℚ b) *ℚ u
  shift' u = ap (λ c. ((r -ℚ a *ℚ u) /ℚ b) -ℚ c) on ∙ ring rational (a ∷ inv_ℚ b ∷ r ∷ x ∷ u ∷ []) ((v 2 :- v 0 :* v 4) :* v 1 :- (v 2 :- v 0 :* v 3) :* v 1) ((v 0 :* v 1) :* v 3 :- (v 0 :* v 1) :* v 4) refl

  image-low_pos : (u : Option Number) → zero_ℚ <ℚ (a /ℚ b) → (AtMost u x → AtLeast (image a b r u) y) × (AtLeast (image a b r u) y → AtMost u x)
  image-low_pos None p = ((λ h. tt), λ h. tt)
  image-low_pos (Some u) p = ((λ h. ≤ℚ-by _ _ _ _ (sym (shift u)) (≤ℚ-*ℚ (a /ℚ b) (<ℚ-≤ℚ p) h)), λ h. ≤ℚ-cancel (a /ℚ b) p (≤ℚ-by _ _ _ _ (shift u) h))

  image-high_pos : (u : Option Number) → zero_ℚ <ℚ (a /ℚ b) → (AtLeast u x → AtMost (image a b r u) y) × (AtMost (image a b r u) y → AtLeast u x)
  image-high_pos None p = ((λ h. tt), λ h. tt)
  image-high_pos (Some u) p = ((λ h. ≤ℚ-by _ _ _ _ (sym (shift' u)) (≤ℚ-*ℚ (a /ℚ b) (<ℚ-≤ℚ p) h)), λ h. ≤ℚ-cancel (a /ℚ b) p (≤ℚ-by _ _ _ _ (shift' u) h))

  image-low_neg : (u : Option Number) → (a /ℚ b) <ℚ zero_ℚ → (AtLeast u x → AtLeast (image a b r u) y) × (AtLeast (image a b r u) y → AtLeast u x)
  image-low_neg None p = ((λ h. tt), λ h. tt)
  image-low_neg (Some u) p = ((λ h. ≤ℚ-by _ _ _ _ (sym (shift u)) (≤ℚ-*ℚ_down (a /ℚ b) (<ℚ-≤ℚ p) h)), λ h. ≤ℚ-cancel_down (a /ℚ b) p (≤ℚ-by _ _ _ _ (shift u) h))

  image-high_neg : (u : Option Number) → (a /ℚ b) <ℚ zero_ℚ → (AtMost u x → AtMost (image a b r u) y) × (AtMost (image a b r u) y → AtMost u x)
  image-high_neg None p = ((λ h. tt), λ h. tt)
  image-high_neg (Some u) p = ((λ h. ≤ℚ-by _ _ _ _ (sym (shift' u)) (≤ℚ-*ℚ_down (a /ℚ b) (<ℚ-≤ℚ p) h)), λ h. ≤ℚ-cancel_down (a /ℚ b) p (≤ℚ-by _ _ _ _ (shift' u) h))

  pub between-image : (l u : Option Number) → (a /ℚ b) ≢ zero_ℚ → (Between l u x → Between (image_lower a b r l u) (image_upper a b r l u) y) × (Between (image_lower a b r l u) (image_upper a b r l u) y → Between l u x)
  between-image l u n = by (lt_ℚ zero_ℚ (a /ℚ b)) refl
    where
      by : (s : Bool) → lt_ℚ zero_ℚ (a /ℚ b) ≡ s → (Between l u x → Between (if s then image a b r u else image a b r l) (if s then image a b r l else image a b r u) y) × (Between (if s then image a b r u else image a b r l) (if s then image a b r l else image a b r u) y → Between l u x)
      by true e = let p = lt_true _ _ e in
          ((λ h. record { low = (image-low_pos u p).0 h.high; high = (image-high_pos l p).0 h.low }), λ h. record { low = (image-high_pos l p).1 h.high; high = (image-low_pos u p).1 h.low })
      by false e = let p = below_zero _ e n in
          ((λ h. record { low = (image-low_neg l p).0 h.low; high = (image-high_neg u p).0 h.high }), λ h. record { low = (image-low_neg l p).1 h.low; high = (image-high_neg u p).1 h.high })

pub over-nonzero : (a b : Number) → a ≢ zero_ℚ → b ≢ zero_ℚ → (a /ℚ b) ≢ zero_ℚ
over-nonzero a b n m e = n (sym (over-times b a m) ∙ ap (λ c. b *ℚ c) e ∙ ring rational (b ∷ []) (v 0 :* num (pos 0)) (num (pos 0)) refl)

module _ (M : LinearProgram) (i j k : ℕ) (r : Number) (d : IsDoubletonEquation M i j k r) where
  abbrev a : Number
  a = M.coefficient i j

  abbrev b : Number
  b = M.coefficient i k

  abbrev q : Number
  q = b /ℚ a

  abbrev e : Number
  e = r /ℚ a

  abbrev R : LinearProgram
  R = doubleton_equation_substituted M i j k r

  -- the value that the undoing gives
  solved : (x : Vector) → (r -ℚ b *ℚ x k) /ℚ a ≡ e -ℚ q *ℚ x k
  solved x = ring rational (r ∷ b ∷ x k ∷ inv_ℚ a ∷ []) ((v 0 :- v 1 :* v 2) :* v 3) (v 0 :* v 3 :- v 1 :* v 3 :* v 2) refl

  pub undone : (x : Vector) → undo_doubleton_equation j k a b r x ≡ put x j (e -ℚ q *ℚ x k)
  undone x = ap (put x j) (solved x)

  pub two_value : (x : Vector) → value_at M i x ≡ a *ℚ x j +ℚ b *ℚ x k
  two_value x = two_terms M.columns (λ p. M.coefficient i p *ℚ x p) j k d.first d.second d.apart (λ p l nj nk. ap (λ c. c *ℚ x p) (d.only p l nj nk) ∙ ring rational (x p ∷ []) (num (pos 0) :* v 0) (num (pos 0)) refl)

  -- on the row
  first_is : (x : Vector) → a *ℚ x j +ℚ b *ℚ x k ≡ r → x j ≡ e -ℚ q *ℚ x k
  first_is x h = sym (times-over a (x j) d.first_entry) ∙ ring rational (a ∷ x j ∷ b ∷ x k ∷ inv_ℚ a ∷ []) ((v 0 :* v 1) :* v 4) (((v 0 :* v 1 :+ v 2 :* v 3) :- v 2 :* v 3) :* v 4) refl ∙ ap (λ c. (c -ℚ b *ℚ x k) /ℚ a) h ∙ solved x

  pub second_is : (x : Vector) → a *ℚ x j +ℚ b *ℚ x k ≡ r → x k ≡ (r -ℚ a *ℚ x j) /ℚ b
  second_is x h = sym (times-over b (x k) d.second_entry) ∙ ring rational (a ∷ x j ∷ b ∷ x k ∷ inv_ℚ b ∷ []) ((v 2 :* v 3) :* v 4) (((v 0 :* v 1 :+ v 2 :* v 3) :- v 0 :* v 1) :* v 4) refl ∙ ap (λ c. (c -ℚ a *ℚ x j) /ℚ b) h

  -- the undone point is on the row
  pub on_row : (x : Vector) → a *ℚ put x j (e -ℚ q *ℚ x k) j +ℚ b *ℚ put x j (e -ℚ q *ℚ x k) k ≡ r
  on_row x = ap₂ (λ s t. a *ℚ s +ℚ b *ℚ t) (put-same x j (e -ℚ q *ℚ x k)) (put-other x j (e -ℚ q *ℚ x k) k (λ m. d.apart (sym m)))
      ∙ ring rational (a ∷ b ∷ r ∷ x k ∷ inv_ℚ a ∷ []) (v 0 :* (v 2 :* v 4 :- v 1 :* v 4 :* v 3) :+ v 1 :* v 3) ((v 0 :* v 4) :* (v 2 :- v 1 :* v 3) :+ v 1 :* v 3) refl
      ∙ ap (λ c. c *ℚ (r -ℚ b *ℚ x k) +ℚ b *ℚ x k) (*ℚ-inv_ℚ a d.first_entry)
      ∙ ring rational (b ∷ r ∷ x k ∷ []) (num (pos 1) :* (v 1 :- v 0 :* v 2) :+ v 0 :* v 2) (v 1) refl

  pub value-doubleton : (m : ℕ) (x : Vector) → m ≢ i → value_at M m (put x j (e -ℚ q *ℚ x k)) ≡ value_at R m x +ℚ M.coefficient m j *ℚ e
  value-doubleton m x n = total-substituted M.columns (M.coefficient m) x j k q e d.first d.second d.apart
      ∙ ap (λ (c : ℕ → Number). total M.columns (λ p. c p *ℚ x p) +ℚ M.coefficient m j *ℚ e) (sym (put-other (λ m. substituted (M.coefficient m) j k q) i (λ p. zero_ℚ) m n))

  pub cost-doubleton : (x : Vector) → cost_at M (put x j (e -ℚ q *ℚ x k)) ≡ cost_at R x +ℚ M.costs j *ℚ e
  cost-doubleton x = ap (λ s. s +ℚ M.constant) (total-substituted M.columns M.costs x j k q e d.first d.second d.apart)
      ∙ ring rational (total M.columns (λ p. substituted M.costs j k q p *ℚ x p) ∷ M.constant ∷ M.costs j ∷ e ∷ []) (v 0 :+ v 2 :* v 3 :+ v 1) (v 0 :+ v 1 :+ v 2 :* v 3) refl

  abbrev il : Option Number
  il = image_lower a b r (M.lower_bound j) (M.upper_bound j)

  abbrev ih : Option Number
  ih = image_upper a b r (M.lower_bound j) (M.upper_bound j)

  lifted : (x : Vector) → Feasible R x → Feasible M (put x j (e -ℚ q *ℚ x k))
  lifted x h =
      let w : Vector = put x j (e -ℚ q *ℚ x k) in
      let kj : k ≢ j = λ m. d.apart (sym m) in
      let wk : w k ≡ x k = put-other x j (e -ℚ q *ℚ x k) k kj in
      let bk : Between (meet_low (M.lower_bound k) il) (meet_high (M.upper_bound k) ih) (x k) = rw (put-same (put M.lower_bound j None), put-same (put M.upper_bound j None)) at (h.columns k d.second) in
      let bi : Between il ih (x k) = record { low = ((meet_low-is (M.lower_bound k) il (x k)).0 bk.low).1; high = ((meet_high-is (M.upper_bound k) ih (x k)).0 bk.high).1 } in
      let bj : Between (M.lower_bound j) (M.upper_bound j) (w j) = (between-image a b r (w j) (x k) (sym wk ∙ second_is w (on_row x)) (M.lower_bound j) (M.upper_bound j) (over-nonzero a b d.first_entry d.second_entry)).1 bi in
      record {
        rows = at_or_off (λ m. m < M.rows → Between (M.lower_side m) (M.upper_side m) (value_at M m w)) i
            (λ l. rw (d.lower, d.upper) (subst (Between (Some r) (Some r)) (sym (two_value w ∙ on_row x)) (record { low = ≤ℚ_refl r; high = ≤ℚ_refl r })))
            (λ m n l. subst (Between (M.lower_side m) (M.upper_side m)) (sym (value-doubleton m x n))
            (less_out (M.lower_side m) (M.upper_side m) (M.coefficient m j *ℚ e) (value_at R m x)
            (rw (← put-other (λ m. less (M.lower_side m) (M.coefficient m j *ℚ e)) i None m n, ← put-other (λ m. less (M.upper_side m) (M.coefficient m j *ℚ e)) i None m n) (h.rows m l))));
        columns = at_or_off (λ p. p < M.columns → Between (M.lower_bound p) (M.upper_bound p) (w p)) j (λ l. bj)
            (λ p nj l. at_or_off (λ p. p ≢ j → p < M.columns → Between (M.lower_bound p) (M.upper_bound p) (w p)) k
            (λ nj l. subst (Between (M.lower_bound k) (M.upper_bound k)) (sym wk) (record { low = ((meet_low-is (M.lower_bound k) il (x k)).0 bk.low).0; high = ((meet_high-is (M.upper_bound k) ih (x k)).0 bk.high).0 }))
            (λ p nk nj l. subst (Between (M.lower_bound p) (M.upper_bound p)) (sym (put-other x j (e -ℚ q *ℚ x k) p nj))
            (rw (← put-other M.lower_bound j None p nj, ← put-other M.upper_bound j None p nj, ← put-other (put M.lower_bound j None) k (meet_low (M.lower_bound k) il) p nk, ← put-other (put M.upper_bound j None) k (meet_high (M.upper_bound k) ih) p nk) (h.columns p l))) p nj l);
        whole = at_or_off (λ p. p < M.columns → IsTrue (M.whole p) → IsWhole (w p)) j
            (λ l t. let g = d.whole t in subst IsWhole (sym (put-same x j (e -ℚ q *ℚ x k))) (IsWhole-- g.2 (IsWhole-*ℚ g.1 (h.whole k d.second (put-other M.whole j false k kj ∙ g.0)))))
            (λ p n l t. subst IsWhole (sym (put-other x j (e -ℚ q *ℚ x k) p n)) (h.whole p l (put-other M.whole j false p n ∙ t)));
        gaps = gaps_moved M j x (e -ℚ q *ℚ x k) d.solid (gaps_back M j x d.solid h.gaps);
      }

  kept : (w : Vector) → Feasible M w → Feasible R w × (put w j (e -ℚ q *ℚ w k) ≡ w)
  kept w h =
      let low : r ≤ℚ value_at M i w = subst (λ s. AtLeast s (value_at M i w)) d.lower (h.rows i d.row).low in
      let high : value_at M i w ≤ℚ r = subst (λ s. AtMost s (value_at M i w)) d.upper (h.rows i d.row).high in
      let on : a *ℚ w j +ℚ b *ℚ w k ≡ r = sym (two_value w) ∙ ≤ℚ_antisym high low in
      let back : put w j (e -ℚ q *ℚ w k) ≡ w = put_back w j (e -ℚ q *ℚ w k) (first_is w on) in
      let bi = (between-image a b r (w j) (w k) (second_is w on) (M.lower_bound j) (M.upper_bound j) (over-nonzero a b d.first_entry d.second_entry)).0 (h.columns j d.first) in (
        record {
          rows = at_or_off (λ m. m < M.rows → Between (R.lower_side m) (R.upper_side m) (value_at R m w)) i
              (λ l. rw (put-same (λ m. less (M.lower_side m) (M.coefficient m j *ℚ e)), put-same (λ m. less (M.upper_side m) (M.coefficient m j *ℚ e))) (record { low = tt; high = tt }))
              (λ m n l. rw (put-other (λ m. less (M.lower_side m) (M.coefficient m j *ℚ e)) i None m n, put-other (λ m. less (M.upper_side m) (M.coefficient m j *ℚ e)) i None m n)
              (less_in (M.lower_side m) (M.upper_side m) (M.coefficient m j *ℚ e) (value_at R m w) (subst (Between (M.lower_side m) (M.upper_side m)) (ap (value_at M m) (sym back) ∙ value-doubleton m w n) (h.rows m l))));
          columns = at_or_off (λ p. p < M.columns → Between (R.lower_bound p) (R.upper_bound p) (w p)) k
              (λ l. rw (put-same (put M.lower_bound j None), put-same (put M.upper_bound j None)) (record { low = (meet_low-is (M.lower_bound k) il (w k)).1 ((h.columns k l).low, bi.low); high = (meet_high-is (M.upper_bound k) ih (w k)).1 ((h.columns k l).high, bi.high) }))
              (λ p nk l. rw (put-other (put M.lower_bound j None) k (meet_low (M.lower_bound k) il) p nk, put-other (put M.upper_bound j None) k (meet_high (M.upper_bound k) ih) p nk)
              (at_or_off (λ p. p < M.columns → Between (put M.lower_bound j None p) (put M.upper_bound j None p) (w p)) j
              (λ l. rw (put-same M.lower_bound, put-same M.upper_bound) (record { low = tt; high = tt }))
              (λ p nj l. rw (put-other M.lower_bound j None p nj, put-other M.upper_bound j None p nj) (h.columns p l)) p l));
          whole = at_or_off (λ p. p < M.columns → put M.whole j false p ≡ true → IsWhole (w p)) j
              (λ l t. absurd (let f = put-same M.whole j false in cc))
              (λ p n l t. h.whole p l (sym (put-other M.whole j false p n) ∙ t));
          gaps = gaps_off M j w h.gaps;
        },
        back,
      )

  pub doubleton_equation_reduces : (s : Sense) → Reduces s M R (undo_doubleton_equation j k a b r) (doubleton_equation_offset M i j r)
  doubleton_equation_reduces s = record {
    lifts = λ x h. subst (Feasible M) (sym (undone x)) (lifted x h);
    costs = λ x h. ap (cost_at M) (undone x) ∙ cost-doubleton x;
    keeps = λ w h. let p = kept w h in (w, p.0, no_worse_same s _ _ (sym (cost-doubleton w) ∙ ap (cost_at M) p.1));
  }
