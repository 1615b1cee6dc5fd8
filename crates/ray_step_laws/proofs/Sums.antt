-- A list of terms in place of a row or a column.
use Rattle.std.proofs.Common.{◌≡◌, ℕ, suc, List, [], ◌∷◌, pos, sym, refl, ap, ap₂, ◌∙◌, arith, Bool, true, false}
use Rattle.std.specs.Prelude.{if◌then◌else◌}
use Rattle.fractions.specs.Ring.{ring, v, num, ◌:+◌, ◌:-◌}
use Rattle.fractions.specs.Number.{Number, rational, ◌+ℚ◌, ◌-ℚ◌, zero_ℚ, neg_ℚ}
use Rattle.fractions.specs.Compare.{lt_ℚ}
use Rattle.fractions.specs.Total.{total}
use Rattle.fractions.proofs.Totals.{put-same, put-other, total-zero, total_off}
use Rattle.lp_model.specs.declared.terms.Term.{Term}
use Rattle.lp_model.specs.Sparse.{Ascends, dense}
use Rattle.lp_theory.proofs.SparseSums.{dense-below}
use Rattle.lp_theory.proofs.ActivityLaws.{lt_true}
use Rattle.lp_theory.proofs.Pairs.{not_below}
use Rattle.fractions.specs.Division.{◌/ℚ◌}
use Rattle.undo_records.specs.declared.side.Side.{Side}
use Rattle.undo_records.specs.declared.side.Side.TheVariants.{Lower, Upper}
use Rattle.lp_rays.specs.Ray.{Weights}
use Rattle.ray_steps.specs.StepBack.{ratio, ratios}

-- ratios of columns without an entry are 0
neither : (x y : Number) → (if lt_ℚ zero_ℚ zero_ℚ then x else if lt_ℚ zero_ℚ zero_ℚ then y else zero_ℚ) ≡ zero_ℚ
neither x y = by (lt_ℚ zero_ℚ zero_ℚ) refl
  where
    by : (b : Bool) → lt_ℚ zero_ℚ zero_ℚ ≡ b → (if b then x else if b then y else zero_ℚ) ≡ zero_ℚ
    by true e = absurd (not_below (lt_true _ _ e))
    by false e = refl

ratio_none : (side : Side) (p q : Number) → ratio side zero_ℚ p q ≡ zero_ℚ
ratio_none Lower p q = neither (p /ℚ zero_ℚ) (q /ℚ neg_ℚ zero_ℚ)
ratio_none Upper p q = neither (q /ℚ zero_ℚ) (p /ℚ neg_ℚ zero_ℚ)

ratios_from : (side : Side) (es : List Term) (m n : ℕ) (w : Weights) → Ascends m n es → ratios side es w ≡ total n (λ k. ratio side (dense es k) (w.p k) (w.q k))
ratios_from side [] m n w a = sym (total-zero n _ (λ k l. ratio_none side (w.p k) (w.q k)))
ratios_from side (e ∷ es) m n w a =
    let T : Number = total n (λ k. ratio side (dense es k) (w.p k) (w.q k)) in
    let r : Number = ratio side e.value (w.p e.id) (w.q e.id) in
    ap (λ c. r +ℚ c) (ratios_from side es (suc e.id) n w a.3)
    ∙ ring rational (r ∷ T ∷ []) (v 0 :+ v 1) (v 1 :- num (pos 0) :+ v 0) refl
    ∙ ap₂ (λ x y. T -ℚ x +ℚ ratio side y (w.p e.id) (w.q e.id)) (sym (ap (λ c. ratio side c (w.p e.id) (w.q e.id)) (dense-below es (suc e.id) n e.id a.3 (omega arith)) ∙ ratio_none side (w.p e.id) (w.q e.id))) (sym (put-same (dense es) e.id e.value))
    ∙ sym (total_off n (λ k. ratio side (dense es k) (w.p k) (w.q k)) (λ k. ratio side (dense (e ∷ es) k) (w.p k) (w.q k)) e.id a.1 (λ k o. ap (λ c. ratio side c (w.p k) (w.q k)) (put-other (dense es) e.id e.value k o)))

pub ratios_are : (side : Side) (n : ℕ) (ts : List Term) (w : Weights) → Ascends 0 n ts → ratios side ts w ≡ total n (λ k. ratio side (dense ts k) (w.p k) (w.q k))
ratios_are side n ts w a = ratios_from side ts 0 n w a
