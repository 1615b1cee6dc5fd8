-- The net of a column's rows, as a loop makes it.
use Rattle.std.proofs.Common.{◌≡◌, ◌↔◌, ℕ, suc, ◌<◌, List, [], ◌∷◌, length, pos, sym, refl, ◌∙◌, subst, arith}
use Rattle.fractions.specs.Ring.{ring, v, num, ◌:+◌, ◌:*◌}
use Rattle.fractions.specs.Number.{Number, rational, zero_ℚ, ◌+ℚ◌, ◌-ℚ◌}
use Rattle.lp_model.specs.declared.terms.Term.{Term}
use Rattle.fractions.specs.Number.{◌*ℚ◌, *ℚ_comm}
use Rattle.fractions.specs.Total.{total}
use Rattle.fractions.proofs.Totals.{total_same}
use Rattle.lp_model.specs.Sparse.{Ascends, dense}
use Rattle.lp_theory.proofs.SparseSums.{sparse-dense}
use Rattle.lp_rays.specs.Ray.{Weights}
use Rattle.lp_rays.specs.Nets.{net_of, NetFits, TermFits, net_term}

-- a list of entries in place of a column
pub net_is : (n : ℕ) (ts : List Term) (w : Weights) → Ascends 0 n ts → net_of ts w ≡ total n (λ m. (w.s m -ℚ w.t m) *ℚ dense ts m)
net_is n ts w a = sparse-dense ts 0 n (λ m. w.s m -ℚ w.t m) a ∙ total_same n _ _ (λ m l. *ℚ_comm (dense ts m) (w.s m -ℚ w.t m))

-- r is the net of the terms before the rest
pub record Netted (m : ℕ) (ts : List Term) (w : Weights) (r : Number) (rest : List Term) : Type 0 where
  pub next : ℕ
  pub ascends : Ascends next m rest
  pub value : r +ℚ net_of rest w ≡ net_of ts w
  pub fits : NetFits zero_ℚ ts w ↔ NetFits r rest w

pub netted_none : (m : ℕ) (ts : List Term) (w : Weights) (r : Number) → r ≡ zero_ℚ → Ascends 0 m ts → Netted m ts w r ts
netted_none m ts w r e a = subst (λ q. Netted m ts w q ts) (sym e) (record {
  next = 0;
  ascends = a;
  value = ring rational (net_of ts w ∷ []) (num (pos 0) :+ v 0) (v 0) refl;
  fits = (λ h. h, λ h. h);
})

pub netted_id : (m : ℕ) (ts rest es : List Term) (e : Term) (w : Weights) (r : Number) → rest ≡ e ∷ es → Netted m ts w r rest → e.id < m
netted_id m ts rest es e w r is h = (subst (λ us. Netted m ts w r us) is h).ascends.1

pub netted_more : (m : ℕ) (ts rest es : List Term) (e : Term) (w : Weights) (r q : Number) → rest ≡ e ∷ es → q ≡ r +ℚ net_term w e → TermFits r e w → Netted m ts w r rest → Netted m ts w q es
netted_more m ts rest es e w r q is eq f h = by (subst (λ us. Netted m ts w r us) is h)
  where
    by : Netted m ts w r (e ∷ es) → Netted m ts w q es
    by g = subst (λ x. Netted m ts w x es) (sym eq) (record {
      next = suc e.id;
      ascends = g.ascends.3;
      value = ring rational (r ∷ (w.s e.id -ℚ w.t e.id) ∷ e.value ∷ net_of es w ∷ []) ((v 0 :+ v 1 :* v 2) :+ v 3) (v 0 :+ (v 2 :* v 1 :+ v 3)) refl ∙ g.value;
      fits = (λ a. (g.fits.0 a).1, λ b. g.fits.1 (f, b));
    })

pub netted_stops : (m : ℕ) (ts rest es : List Term) (e : Term) (w : Weights) (r : Number) → rest ≡ e ∷ es → (TermFits r e w → ⊥) → Netted m ts w r rest → NetFits zero_ℚ ts w → ⊥
netted_stops m ts rest es e w r is none h f = none ((subst (λ us. Netted m ts w r us) is h).fits.0 f).0

pub netted_all : (m : ℕ) (ts rest : List Term) (w : Weights) (r : Number) → length rest ≡ 0 → Netted m ts w r rest → (r ≡ net_of ts w) × NetFits zero_ℚ ts w
netted_all m ts [] w r none g = (ring rational (r ∷ []) (v 0) (v 0 :+ num (pos 0)) refl ∙ g.value, g.fits.1 tt)
netted_all m ts (e ∷ es) w r none g = absurd (omega (arith, none))
