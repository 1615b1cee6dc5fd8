-- Elementary reductions and how they join.
use Rattle.std.proofs.Common.{◌≡◌, ◌≢◌, ℕ, ◌<◌, pos, sym, refl, ap, ◌∙◌, [], ◌∷◌, subst, Option, None}
use Rattle.fractions.specs.Ring.{ring, v, num, ◌:+◌, ◌:-◌}
use Rattle.fractions.specs.Number.{Number, rational, zero_ℚ, ◌+ℚ◌, ◌*ℚ◌}
use Rattle.fractions.specs.Order.{≤ℚ_trans, ≤ℚ-by}
use Rattle.fractions.specs.Total.{total, put}
use Rattle.fractions.specs.Ends.{Between}
use Rattle.fractions.proofs.Totals.{put-same, put-other, at_or_off}
use Rattle.fractions.specs.Signs.{≤ℚ-same}
use Rattle.lp_model.specs.declared.program.Sense.{Sense}
use Rattle.lp_model.specs.declared.program.Sense.TheVariants.{Min, Max}
use Rattle.lp_model.specs.Vectors.{Vector}
use Rattle.lp_model.specs.LinearProgram.{LinearProgram, value_at, cost_at, Feasible}
use Rattle.lp_model.specs.Senses.{NoWorse}
use Rattle.lp_model.specs.Reductions.{Reduces, Priced, ReducesPairs}
use Rattle.lp_model.specs.Edits.{without_row, with_bounds, with_sides}

-- ---- no worse
pub no_worse_same : (s : Sense) (a b : Number) → a ≡ b → NoWorse s a b
no_worse_same Min a b e = ≤ℚ-same e
no_worse_same Max a b e = ≤ℚ-same (sym e)

pub no_worse_trans : (s : Sense) (a b c : Number) → NoWorse s a b → NoWorse s b c → NoWorse s a c
no_worse_trans Min a b c h k = ≤ℚ_trans h k
no_worse_trans Max a b c h k = ≤ℚ_trans k h

pub no_worse_more : (s : Sense) (a b k : Number) → NoWorse s a b → NoWorse s (a +ℚ k) (b +ℚ k)
no_worse_more Min a b k h = ≤ℚ-by a b (a +ℚ k) (b +ℚ k) (ring rational (a ∷ b ∷ k ∷ []) (v 1 :- v 0) ((v 1 :+ v 2) :- (v 0 :+ v 2)) refl) h
no_worse_more Max a b k h = ≤ℚ-by b a (b +ℚ k) (a +ℚ k) (ring rational (a ∷ b ∷ k ∷ []) (v 0 :- v 1) ((v 0 :+ v 2) :- (v 1 :+ v 2)) refl) h

-- ---- two steps
pub compose : (s : Sense) (M P R : LinearProgram) (f g : Vector → Vector) (k l : Number) → Reduces s M P f k → Reduces s P R g l → Reduces s M R (λ x. f (g x)) (k +ℚ l)
compose s M P R f g k l a b = record {
  lifts = λ x h. a.lifts (g x) (b.lifts x h);
  costs = λ x h. a.costs (g x) (b.lifts x h) ∙ ap (λ c. c +ℚ k) (b.costs x h) ∙ ring rational (cost_at R x ∷ l ∷ k ∷ []) (v 0 :+ v 1 :+ v 2) (v 0 :+ (v 2 :+ v 1)) refl;
  keeps = λ w h. let p = a.keeps w h in let q = b.keeps p.0 p.1 in (
    q.0,
    q.1,
    subst (λ c. NoWorse s c (cost_at M w)) (ring rational (cost_at R q.0 ∷ l ∷ k ∷ []) (v 0 :+ v 1 :+ v 2) (v 0 :+ (v 2 :+ v 1)) refl)
        (no_worse_trans s _ _ _ (no_worse_more s _ _ k q.2) p.2),
  );
}

pub compose_pairs : (s : Sense) (M P R : LinearProgram) (f g : Priced → Priced) → ReducesPairs s M P f → ReducesPairs s P R g → ReducesPairs s M R (λ p. f (g p))
compose_pairs s M P R f g a b = record {
  priced = λ p i h. a.priced (g p) (b.priced p i h) (b.meets p i h);
  meets = λ p i h. a.meets (g p) (b.priced p i h) (b.meets p i h);
}

pub plus_zero : (a : Number) → a ≡ a +ℚ zero_ℚ
plus_zero a = ring rational (a ∷ []) (v 0) (v 0 :+ num (pos 0)) refl

-- the same points at the same costs
pub same_points : (s : Sense) (M R : LinearProgram) → ((x : Vector) → cost_at M x ≡ cost_at R x) → ((x : Vector) → Feasible R x → Feasible M x) → ((x : Vector) → Feasible M x → Feasible R x)
    → Reduces s M R (λ x. x) zero_ℚ
same_points s M R c to from = record {
  lifts = to;
  costs = λ x h. c x ∙ plus_zero (cost_at R x);
  keeps = λ w h. (w, from w h, no_worse_same s _ _ (sym (c w ∙ plus_zero (cost_at R w))));
}

-- two such steps in a row
pub compose_same : (s : Sense) (M P R : LinearProgram) → Reduces s M P (λ x. x) zero_ℚ → Reduces s P R (λ x. x) zero_ℚ → Reduces s M R (λ x. x) zero_ℚ
compose_same s M P R a b = subst (λ c. Reduces s M R (λ x. x) c) (sym (plus_zero zero_ℚ)) (compose s M P R (λ x. x) (λ x. x) zero_ℚ zero_ℚ a b)

-- fewer points, and one no worse for each
pub fewer_points : (s : Sense) (M R : LinearProgram) → ((x : Vector) → cost_at M x ≡ cost_at R x) → ((x : Vector) → Feasible R x → Feasible M x)
    → ((w : Vector) → Feasible M w → (x : Vector) × Feasible R x × NoWorse s (cost_at M x) (cost_at M w)) → Reduces s M R (λ x. x) zero_ℚ
fewer_points s M R c to from = record {
  lifts = to;
  costs = λ x h. c x ∙ plus_zero (cost_at R x);
  keeps = λ w h. let p = from w h in (p.0, p.1, subst (λ z. NoWorse s z (cost_at M w)) (c p.0 ∙ plus_zero (cost_at R p.0)) p.2);
}

-- ---- a row deleted
pub value-without_row : (M : LinearProgram) (i p : ℕ) (x : Vector) → p ≢ i → value_at (without_row M i) p x ≡ value_at M p x
value-without_row M i p x n = ap (λ (r : ℕ → Number). total M.columns (λ j. r j *ℚ x j)) (put-other M.coefficient i (λ j. zero_ℚ) p n)

-- a row that all points of the rest keep
pub redundant_row : (s : Sense) (M : LinearProgram) (i : ℕ) → ((x : Vector) → Feasible (without_row M i) x → Between (M.lower_side i) (M.upper_side i) (value_at M i x))
    → Reduces s M (without_row M i) (λ x. x) zero_ℚ
redundant_row s M i kept = same_points s M (without_row M i) (λ x. refl)
    (λ x h. record {
      rows = at_or_off (λ p. p < M.rows → Between (M.lower_side p) (M.upper_side p) (value_at M p x)) i (λ r. kept x h)
          (λ p n r. rw (← put-other M.lower_side i None p n, ← put-other M.upper_side i None p n, ← value-without_row M i p x n) (h.rows p r));
      columns = h.columns;
      whole = h.whole;
      gaps = h.gaps;
    })
    (λ x h. record {
      rows = at_or_off (λ p. p < M.rows → Between (put M.lower_side i None p) (put M.upper_side i None p) (value_at (without_row M i) p x)) i
          (λ r. rw (put-same M.lower_side, put-same M.upper_side) (record { low = tt; high = tt }))
          (λ p n r. rw (put-other M.lower_side i None p n, put-other M.upper_side i None p n, value-without_row M i p x n) (h.rows p r));
      columns = h.columns;
      whole = h.whole;
      gaps = h.gaps;
    })

-- ---- new bounds of a column that say the same within the program
pub same_bounds : (s : Sense) (M : LinearProgram) (j : ℕ) (l u : Option Number)
    → ((x : Vector) → Feasible (with_bounds M j l u) x → j < M.columns → Between (M.lower_bound j) (M.upper_bound j) (x j))
    → ((x : Vector) → Feasible M x → j < M.columns → Between l u (x j))
    → Reduces s M (with_bounds M j l u) (λ x. x) zero_ℚ
same_bounds s M j l u back there = same_points s M (with_bounds M j l u) (λ x. refl)
    (λ x h. record {
      rows = h.rows;
      columns = at_or_off (λ k. k < M.columns → Between (M.lower_bound k) (M.upper_bound k) (x k)) j (back x h)
          (λ k n c. rw (← put-other M.lower_bound j l k n, ← put-other M.upper_bound j u k n) (h.columns k c));
      whole = h.whole;
      gaps = h.gaps;
    })
    (λ x h. record {
      rows = h.rows;
      columns = at_or_off (λ k. k < M.columns → Between (put M.lower_bound j l k) (put M.upper_bound j u k) (x k)) j
          (λ c. rw (put-same M.lower_bound, put-same M.upper_bound) (there x h c))
          (λ k n c. rw (put-other M.lower_bound j l k n, put-other M.upper_bound j u k n) (h.columns k c));
      whole = h.whole;
      gaps = h.gaps;
    })

-- ---- new sides of a row that say the same within the program
pub same_sides : (s : Sense) (M : LinearProgram) (i : ℕ) (l u : Option Number)
    → ((x : Vector) → Feasible (with_sides M i l u) x → i < M.rows → Between (M.lower_side i) (M.upper_side i) (value_at M i x))
    → ((x : Vector) → Feasible M x → i < M.rows → Between l u (value_at M i x))
    → Reduces s M (with_sides M i l u) (λ x. x) zero_ℚ
same_sides s M i l u back there = same_points s M (with_sides M i l u) (λ x. refl)
    (λ x h. record {
      rows = at_or_off (λ p. p < M.rows → Between (M.lower_side p) (M.upper_side p) (value_at M p x)) i (back x h)
          (λ p n r. rw (← put-other M.lower_side i l p n, ← put-other M.upper_side i u p n) (h.rows p r));
      columns = h.columns;
      whole = h.whole;
      gaps = h.gaps;
    })
    (λ x h. record {
      rows = at_or_off (λ p. p < M.rows → Between (put M.lower_side i l p) (put M.upper_side i u p) (value_at M p x)) i
          (λ r. rw (put-same M.lower_side, put-same M.upper_side) (there x h r))
          (λ p n r. rw (put-other M.lower_side i l p n, put-other M.upper_side i u p n) (h.rows p r));
      columns = h.columns;
      whole = h.whole;
      gaps = h.gaps;
    })
