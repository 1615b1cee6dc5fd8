-- The bounds of a whole column, rounded.
use Rattle.std.proofs.Common.{ℕ, sym, subst, Option, Some, None}
use Rattle.fractions.specs.Number.{Number, zero_ℚ, of_ℤ}
use Rattle.fractions.specs.Order.{◌≤ℚ◌, ≤ℚ_trans}
use Rattle.fractions.specs.Floor.{IsWhole, floor_of, ceil_of}
use Rattle.fractions.specs.Ends.{AtLeast, AtMost, Between}
use Rattle.fractions.proofs.Totals.{put-same}
use Rattle.fractions.proofs.Floors.{floor_of-≤, floor_of_greatest, ≤-ceil_of, ceil_of_least, of_ℤ-≤}
use Rattle.lp_model.specs.declared.program.Sense.{Sense}
use Rattle.lp_model.specs.LinearProgram.{LinearProgram}
use Rattle.lp_model.specs.Reductions.{Reduces}
use Rattle.lp_theory.proofs.Steps.{same_bounds}
use Rattle.lp_columns.specs.RoundedBounds.{IsWholeColumn, rounded_up, rounded_down, bounds_rounded}

up_in : (l : Option Number) (x : Number) → IsWhole x → AtLeast l x → AtLeast (rounded_up l) x
up_in None x w h = tt
up_in (Some l) x w h = subst (λ q. of_ℤ (ceil_of l) ≤ℚ q) (sym w.same) ((of_ℤ-≤ (ceil_of l) w.whole).1 (ceil_of_least l w.whole (subst (λ q. l ≤ℚ q) w.same h)))

up_out : (l : Option Number) (x : Number) → AtLeast (rounded_up l) x → AtLeast l x
up_out None x h = tt
up_out (Some l) x h = ≤ℚ_trans (≤-ceil_of l) h

down_in : (u : Option Number) (x : Number) → IsWhole x → AtMost u x → AtMost (rounded_down u) x
down_in None x w h = tt
down_in (Some u) x w h = subst (λ q. q ≤ℚ of_ℤ (floor_of u)) (sym w.same) ((of_ℤ-≤ w.whole (floor_of u)).1 (floor_of_greatest u w.whole (subst (λ q. q ≤ℚ u) w.same h)))

down_out : (u : Option Number) (x : Number) → AtMost (rounded_down u) x → AtMost u x
down_out None x h = tt
down_out (Some u) x h = ≤ℚ_trans h (floor_of-≤ u)

pub bounds_rounded_reduce : (d : Sense) (M : LinearProgram) (j : ℕ) → IsWholeColumn M j → Reduces d M (bounds_rounded M j) (λ x. x) zero_ℚ
bounds_rounded_reduce d M j w = same_bounds d M j (rounded_up (M.lower_bound j)) (rounded_down (M.upper_bound j))
    (λ x h l. let b : Between (rounded_up (M.lower_bound j)) (rounded_down (M.upper_bound j)) (x j) = rw (put-same M.lower_bound, put-same M.upper_bound) at (h.columns j l) in
    record { low = up_out (M.lower_bound j) (x j) b.low; high = down_out (M.upper_bound j) (x j) b.high })
    (λ x h l. record { low = up_in (M.lower_bound j) (x j) (h.whole j l w.whole) (h.columns j l).low; high = down_in (M.upper_bound j) (x j) (h.whole j l w.whole) (h.columns j l).high })
