-- Dual fixing, down and up.
use Rattle.std.proofs.Common.{◌≡◌, ℕ, ◌<◌, subst, inl, inr, None}
use Rattle.fractions.specs.Number.{Number, zero_ℚ, ◌-ℚ◌, ◌*ℚ◌, *ℚ_comm}
use Rattle.fractions.specs.Order.{◌≤ℚ◌}
use Rattle.fractions.specs.Ends.{AtLeast, AtMost, Between}
use Rattle.fractions.specs.Signs.{*ℚ_pos_neg}
use Rattle.lp_model.specs.declared.program.Sense.TheVariants.{Min}
use Rattle.lp_model.specs.LinearProgram.{LinearProgram}
use Rattle.lp_model.specs.Reductions.{Reduces, ReducesPairs}
use Rattle.lp_columns.specs.BestPlace.{IsBestAt}
use Rattle.lp_columns.specs.DualFixing.{GoesDown, GoesUp, IsDualFixing, column_dual_fixed}
use Rattle.lp_columns.proofs.BestPlace.{best_reduces, best_pairs}
use Rattle.lp_columns.proofs.Held.{Apart, apart_low, apart_high}
use Rattle.lp_columns.proofs.Shifts.{not_up, not_down, shifted, up_by_up, down_by_up, up_by_down, down_by_down}

best_down : (M : LinearProgram) (j : ℕ) (b : Number) → j < M.columns → M.gap j ≡ None → Apart (M.lower_bound j) (M.upper_bound j) → GoesDown M j b → IsBestAt M j b
best_down M j b l s a f =
    let down : (x : Number) → Between (M.lower_bound j) (M.upper_bound j) x → (b -ℚ x) ≤ℚ zero_ℚ = λ x h. not_up b x (subst (λ o. AtLeast o x) f.lower h.low) in
    record {
      column = l;
      within = apart_low (M.lower_bound j) (M.upper_bound j) b a f.lower;
      whole = f.whole;
      solid = s;
      cheap = λ x h. *ℚ_pos_neg f.cost (down x h);
      rows = λ i m x y h g. shifted (M.lower_side i) (M.upper_side i) y (M.coefficient i j *ℚ (b -ℚ x))
          (λ q. f.rows.positive i m (up_by_down (M.coefficient i j) (b -ℚ x) (down x h) q))
          (λ q. f.rows.negative i m (down_by_down (M.coefficient i j) (b -ℚ x) (down x h) q)) g;
    }

best_up : (M : LinearProgram) (j : ℕ) (b : Number) → j < M.columns → M.gap j ≡ None → Apart (M.lower_bound j) (M.upper_bound j) → GoesUp M j b → IsBestAt M j b
best_up M j b l s a f =
    let up : (x : Number) → Between (M.lower_bound j) (M.upper_bound j) x → zero_ℚ ≤ℚ (b -ℚ x) = λ x h. not_down b x (subst (λ o. AtMost o x) f.upper h.high) in
    record {
      column = l;
      within = apart_high (M.lower_bound j) (M.upper_bound j) b a f.upper;
      whole = f.whole;
      solid = s;
      cheap = λ x h. subst (λ c. c ≤ℚ zero_ℚ) (*ℚ_comm (b -ℚ x) (M.costs j)) (*ℚ_pos_neg (up x h) f.cost);
      rows = λ i m x y h g. shifted (M.lower_side i) (M.upper_side i) y (M.coefficient i j *ℚ (b -ℚ x))
          (λ q. f.rows.negative i m (down_by_up (M.coefficient i j) (b -ℚ x) (up x h) q))
          (λ q. f.rows.positive i m (up_by_up (M.coefficient i j) (b -ℚ x) (up x h) q)) g;
    }

best : (M : LinearProgram) (j : ℕ) (b : Number) → IsDualFixing M j b → IsBestAt M j b
best M j b f = elim f.goes [ inl d ↦ best_down M j b f.column f.solid f.apart d | inr u ↦ best_up M j b f.column f.solid f.apart u ]

pub dual_fixing : (M : LinearProgram) (j : ℕ) (b : Number) → IsDualFixing M j b → Reduces Min M (column_dual_fixed M j b) (λ x. x) zero_ℚ
dual_fixing M j b f = best_reduces M j b (best M j b f)

pub dual_fixing_pairs : (M : LinearProgram) (j : ℕ) (b : Number) → IsDualFixing M j b → ReducesPairs Min M (column_dual_fixed M j b) (λ p. p)
dual_fixing_pairs M j b f = best_pairs M j b (best M j b f)
