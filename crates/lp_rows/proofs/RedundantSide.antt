-- Sides that the bounds keep.
use Rattle.std.proofs.Common.{◌≡◌, ℕ, sym, ◌∙◌, Option, Some, None}
use Rattle.fractions.specs.Number.{Number, zero_ℚ}
use Rattle.fractions.specs.Total.{put}
use Rattle.fractions.specs.Ends.{Between}
use Rattle.fractions.proofs.Totals.{put-same, put-other, at_or_off}
use Rattle.lp_model.specs.declared.program.Sense.{Sense}
use Rattle.lp_model.specs.declared.program.Sense.TheVariants.{Min}
use Rattle.lp_model.specs.Vectors.{Vector}
use Rattle.lp_model.specs.LinearProgram.{LinearProgram, value_at, Feasible}
use Rattle.lp_model.specs.Reductions.{Reduces, Priced, ReducesPairs}
use Rattle.lp_theory.specs.Activities.{least, greatest}
use Rattle.lp_model.specs.Edits.{with_sides}
use Rattle.lp_theory.proofs.ActivityLaws.{least-value, greatest-value}
use Rattle.lp_theory.proofs.Carrying.{Carries, pairs_of}
use Rattle.lp_theory.proofs.RowBounds.{at_least_from, at_most_from}
use Rattle.lp_theory.proofs.Steps.{same_sides}
use Rattle.lp_rows.specs.RedundantSide.{IsRedundantLowerSide, IsRedundantUpperSide, lower_side_dropped, upper_side_dropped}

sides_at : (M : LinearProgram) (i : ℕ) (l u : Option Number) (x : Vector) → Between (put M.lower_side i l i) (put M.upper_side i u i) (value_at M i x) → Between l u (value_at M i x)
sides_at M i l u x b = rw (put-same M.lower_side i l, put-same M.upper_side i u) at b

-- ---- points
pub lower_side_kept : (d : Sense) (M : LinearProgram) (i : ℕ) → IsRedundantLowerSide M i → Reduces d M (lower_side_dropped M i) (λ x. x) zero_ℚ
lower_side_kept d M i r = same_sides d M i None (M.upper_side i)
    (λ x h m. record { low = at_least_from (M.lower_side i) (least M i) (value_at M i x) r.lower (least-value M i x h.columns); high = (sides_at M i None (M.upper_side i) x (h.rows i m)).high })
    (λ x h m. record { low = tt; high = (h.rows i m).high })

pub upper_side_kept : (d : Sense) (M : LinearProgram) (i : ℕ) → IsRedundantUpperSide M i → Reduces d M (upper_side_dropped M i) (λ x. x) zero_ℚ
upper_side_kept d M i r = same_sides d M i (M.lower_side i) None
    (λ x h m. record { low = (sides_at M i (M.lower_side i) None x (h.rows i m)).low; high = at_most_from (M.upper_side i) (greatest M i) (value_at M i x) r.upper (greatest-value M i x h.columns) })
    (λ x h m. record { low = (h.rows i m).low; high = tt })

-- ---- pairs: no multiplier is held by a side that is none
-- sides of which each is the old one or none
record Fewer (L M : ℕ → Option Number) : Type 0 where
  at : (p : ℕ) (v : Number) → L p ≡ Some v → M p ≡ Some v

none_there : (f : ℕ → Option Number) (i : ℕ) → Fewer (put f i None) f
none_there f i = record {
  at = λ p v. at_or_off (λ p. put f i None p ≡ Some v → f p ≡ Some v) i
      (λ e. absurd (let n : None ≡ Some v = sym (put-same f i None) ∙ e in cc))
      (λ p n e. sym (put-other f i None p n) ∙ e) p;
}

old_there : (f : ℕ → Option Number) (i : ℕ) → Fewer (put f i (f i)) f
old_there f i = record {
  at = λ p v. at_or_off (λ p. put f i (f i) p ≡ Some v → f p ≡ Some v) i
      (λ e. sym (put-same f i (f i)) ∙ e)
      (λ p n e. sym (put-other f i (f i) p n) ∙ e) p;
}

same_pair : (M : LinearProgram) (i : ℕ) (l u : Option Number) (p : Priced) → Fewer (put M.lower_side i l) M.lower_side → Fewer (put M.upper_side i u) M.upper_side → Feasible M p.x → Carries (with_sides M i l u) p → Carries M p
same_pair M i l u p a b f h = record {
  continuous = h.continuous;
  feasible = f;
  left = h.left;
  pays_low = λ m k q. a.at m (value_at M m p.x) (h.pays_low m k q);
  pays_high = λ m k q. b.at m (value_at M m p.x) (h.pays_high m k q);
  at_low = h.at_low;
  at_high = h.at_high;
}

pub lower_side_kept_pairs : (M : LinearProgram) (i : ℕ) → IsRedundantLowerSide M i → ReducesPairs Min M (lower_side_dropped M i) (λ p. p)
lower_side_kept_pairs M i r = pairs_of M (lower_side_dropped M i) (λ p. p) (record {
  carries = λ p h.
      same_pair M i None (M.upper_side i) p (none_there M.lower_side i) (old_there M.upper_side i) ((lower_side_kept Min M i r).lifts p.x h.feasible) h;
})

pub upper_side_kept_pairs : (M : LinearProgram) (i : ℕ) → IsRedundantUpperSide M i → ReducesPairs Min M (upper_side_dropped M i) (λ p. p)
upper_side_kept_pairs M i r = pairs_of M (upper_side_dropped M i) (λ p. p) (record {
  carries = λ p h.
      same_pair M i (M.lower_side i) None p (old_there M.lower_side i) (none_there M.upper_side i) ((upper_side_kept Min M i r).lifts p.x h.feasible) h;
})
