-- A column that its bounds hold at one number.
use Rattle.std.proofs.Common.{◌≡◌, ℕ, ◌<◌, sym, refl, ap, ◌∙◌, subst, Option, Some, None}
use Rattle.fractions.specs.Number.{Number, zero_ℚ}
use Rattle.fractions.specs.Order.{◌<ℚ◌, ≤ℚ_refl, ≤ℚ_antisym, <ℚ-≤ℚ}
use Rattle.fractions.specs.Ends.{AtLeast, AtMost, Between}
use Rattle.fractions.proofs.Totals.{put-same, put-other, at_or_off}
use Rattle.lp_model.specs.Vectors.{Vector}
use Rattle.lp_model.specs.LinearProgram.{LinearProgram, Feasible}
use Rattle.lp_model.specs.Reductions.{Priced}
use Rattle.lp_theory.proofs.Carrying.{Carries}
use Rattle.lp_columns.specs.BestPlace.{column_fixed_at}

pub pinned : (x b : Number) → Between (Some b) (Some b) x → x ≡ b
pinned x b h = ≤ℚ_antisym h.high h.low

-- ends that differ, the lower one below the upper one, are within each other
abbrev pub Apart : Option Number → Option Number → Type 0
Apart l u = (a b : Number) → l ≡ Some a → u ≡ Some b → a <ℚ b

pub apart_low : (l u : Option Number) (w : Number) → Apart l u → l ≡ Some w → Between l u w
apart_low l None w p e = record { low = subst (λ o. AtLeast o w) (sym e) (≤ℚ_refl w); high = tt }
apart_low l (Some b) w p e = record { low = subst (λ o. AtLeast o w) (sym e) (≤ℚ_refl w); high = <ℚ-≤ℚ (p w b e refl) }

pub apart_high : (l u : Option Number) (w : Number) → Apart l u → u ≡ Some w → Between l u w
apart_high None u w p e = record { low = tt; high = subst (λ o. AtMost o w) (sym e) (≤ℚ_refl w) }
apart_high (Some a) u w p e = record { low = <ℚ-≤ℚ (p a w refl e); high = subst (λ o. AtMost o w) (sym e) (≤ℚ_refl w) }

module _ (M : LinearProgram) (j : ℕ) (b : Number) (l : j < M.columns) (within : Between (M.lower_bound j) (M.upper_bound j) b) where
  pub held_at : (x : Vector) → Feasible (column_fixed_at M j b) x → x j ≡ b
  held_at x h = pinned (x j) b (rw (put-same M.lower_bound j (Some b), put-same M.upper_bound j (Some b)) at (h.columns j l))

  pub held_back : (x : Vector) → Feasible (column_fixed_at M j b) x → Feasible M x
  held_back x h = record {
    rows = h.rows;
    columns = at_or_off (λ k. k < M.columns → Between (M.lower_bound k) (M.upper_bound k) (x k)) j
        (λ m. subst (Between (M.lower_bound j) (M.upper_bound j)) (sym (held_at x h)) within)
        (λ k n m. rw (← put-other M.lower_bound j (Some b) k n, ← put-other M.upper_bound j (Some b) k n) (h.columns k m));
    whole = h.whole;
    gaps = h.gaps;
  }

  -- the same point and duals meet the conditions of the program before, where the column's reduced cost has a sign that its old bounds allow
  pub held_pair : (p : Priced) → Carries (column_fixed_at M j b) p → (zero_ℚ <ℚ p.z j → M.lower_bound j ≡ Some b) → (p.z j <ℚ zero_ℚ → M.upper_bound j ≡ Some b) → Carries M p
  held_pair p h low high =
      let is : p.x j ≡ b = held_at p.x h.feasible in
      record {
        continuous = h.continuous;
        feasible = held_back p.x h.feasible;
        left = h.left;
        pays_low = h.pays_low;
        pays_high = h.pays_high;
        at_low = at_or_off (λ k. k < M.columns → zero_ℚ <ℚ p.z k → M.lower_bound k ≡ Some (p.x k)) j
            (λ m q. low q ∙ ap Some (sym is))
            (λ k n m q. sym (put-other M.lower_bound j (Some b) k n) ∙ h.at_low k m q);
        at_high = at_or_off (λ k. k < M.columns → p.z k <ℚ zero_ℚ → M.upper_bound k ≡ Some (p.x k)) j
            (λ m q. high q ∙ ap Some (sym is))
            (λ k n m q. sym (put-other M.upper_bound j (Some b) k n) ∙ h.at_high k m q);
      }
