-- The greatest, or the least, of ratios, one after another.
use Rattle.std.proofs.Common.{◌≡◌, ◌↔◌, ℕ, suc, List, [], ◌∷◌, length, sym, ap, ◌∙◌, subst, arith}
use Rattle.fractions.specs.Number.{Number, zero_ℚ}
use Rattle.fractions.specs.Division.{◌/ℚ◌}
use Rattle.fractions.specs.Room.{Room}
use Rattle.lp_model.specs.declared.terms.Term.{Term}
use Rattle.lp_model.specs.Vectors.{Vector}
use Rattle.lp_model.specs.Sparse.{Ascends}
use Rattle.undo_records.specs.declared.side.Side.{Side}
use Rattle.undo_pairs.specs.LiftPair.{further, furthest}
use Rattle.postsolve_dual.specs.PairRoom.{RatiosFit}

-- best is the furthest of 0 and the ratios of the terms before the rest
pub record Seeking (r : Room) (side : Side) (m : ℕ) (ts rest : List Term) (z : Vector) (best : Number) : Type 0 where
  pub least : ℕ
  pub ascends : Ascends least m rest
  pub value : furthest side best rest z ≡ furthest side zero_ℚ ts z
  pub fits : RatiosFit r ts z ↔ RatiosFit r rest z

pub ratios_none : (r : Room) (side : Side) (m : ℕ) (ts : List Term) (z : Vector) (best : Number) → best ≡ zero_ℚ → Ascends 0 m ts → Seeking r side m ts ts z best
ratios_none r side m ts z best e a = record { least = 0; ascends = a; value = ap (λ b. furthest side b ts z) e; fits = (λ h. h, λ h. h) }

pub ratios_more : (r : Room) (side : Side) (m : ℕ) (ts rest : List Term) (e : Term) (es : List Term) (z : Vector) (best next q w : Number) → rest ≡ e ∷ es → w ≡ z e.id → q ≡ w /ℚ e.value → next ≡ further side best q → r.number (w /ℚ e.value)
    → Seeking r side m ts rest z best → Seeking r side m ts es z next
ratios_more r side m ts rest e es z best next q w is ew eq en fits h = by (subst (λ us. Seeking r side m ts us z best) is h)
  where
    by : Seeking r side m ts (e ∷ es) z best → Seeking r side m ts es z next
    by g = record {
      least = suc e.id;
      ascends = g.ascends.3;
      value = ap (λ b. furthest side b es z) (en ∙ ap (further side best) (eq ∙ ap (λ c. c /ℚ e.value) ew)) ∙ g.value;
      fits = (λ a. (g.fits.0 a).1, λ b. g.fits.1 (subst (λ c. r.number (c /ℚ e.value)) ew fits, b));
    }

pub ratios_stop : (r : Room) (side : Side) (m : ℕ) (ts rest : List Term) (e : Term) (es : List Term) (z : Vector) (best w : Number) → rest ≡ e ∷ es → w ≡ z e.id → (r.number (w /ℚ e.value) → ⊥) → Seeking r side m ts rest z best → RatiosFit r ts z → ⊥
ratios_stop r side m ts rest e es z best w is ew none h f = by (subst (λ us. Seeking r side m ts us z best) is h)
  where
    by : Seeking r side m ts (e ∷ es) z best → ⊥
    by g = none (subst (λ c. r.number (c /ℚ e.value)) (sym ew) (g.fits.0 f).0)

pub ratios_all : (r : Room) (side : Side) (m : ℕ) (ts rest : List Term) (z : Vector) (best : Number) → length rest ≡ 0 → Seeking r side m ts rest z best → (best ≡ furthest side zero_ℚ ts z) × RatiosFit r ts z
ratios_all r side m ts [] z best none g = (g.value, g.fits.1 tt)
ratios_all r side m ts (e ∷ es) z best none g = absurd (omega (arith, none))

-- the terms of what is left are numbers of the vector, and none of them is 0
pub term_here : (r : Room) (side : Side) (m : ℕ) (ts rest : List Term) (e : Term) (es : List Term) (z : Vector) (best : Number) → rest ≡ e ∷ es → Seeking r side m ts rest z best → Ascends e.id m (e ∷ es)
term_here r side m ts rest e es z best is h = by (subst (λ us. Seeking r side m ts us z best) is h)
  where
    by : Seeking r side m ts (e ∷ es) z best → Ascends e.id m (e ∷ es)
    by g = (omega arith, g.ascends.1, g.ascends.2, g.ascends.3)
