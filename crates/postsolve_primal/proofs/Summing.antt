-- A sum over terms, as a loop makes it.
use Rattle.std.proofs.Common.{◌≡◌, ◌↔◌, false, true, ℕ, suc, ◌+◌, ◌<◌, ◌≤◌, List, [], ◌∷◌, length, drop, get_or, sym, ap, ◌∙◌, subst, add-one}
use Rattle.std.proofs.Math.Seq.{drop-cons}
use Rattle.std.proofs.Math.ListN.{drop_of_length-le}
use Rattle.fractions.specs.Number.{Number, zero_ℚ, ◌+ℚ◌, ◌*ℚ◌, +ℚ_assoc, +ℚ_comm, zero-+ℚ}
use Rattle.lp_model.specs.declared.terms.Term.{Term}
use Rattle.lp_model.specs.Vectors.{Vector}
use Rattle.lp_model.specs.Sparse.{sparse_total}
use Rattle.fractions.specs.Room.{Room}
use Rattle.undo_records.specs.Fitting.{TermFits, TermsFit}

-- s is the sum of the terms before the rest
pub record Summed (m : Room) (ts : List Term) (x : Vector) (s : Number) (rest : List Term) : Type 0 where
  pub value : s +ℚ sparse_total rest x ≡ sparse_total ts x
  pub fits : TermsFit m zero_ℚ ts x ↔ TermsFit m s rest x

pub summed_none : (m : Room) (ts : List Term) (x : Vector) (s : Number) → s ≡ zero_ℚ → Summed m ts x s ts
summed_none m ts x s e = subst (λ r. Summed m ts x r ts) (sym e) (record { value = zero-+ℚ (sparse_total ts x); fits = (λ h. h, λ h. h) })

here : (m : Room) (ts : List Term) (k : ℕ) (t : Term) (x : Vector) (s : Number) → k < length ts → t ≡ get_or ts k t → Summed m ts x s (drop k ts) → Summed m ts x s (t ∷ drop (suc k) ts)
here m ts k t x s l e h = subst (λ us. Summed m ts x s us) (drop-cons ts k t l ∙ ap (λ (u : Term). u ∷ drop (suc k) ts) (sym e)) h

on : (m : Room) (ts us : List Term) (t : Term) (x : Vector) (s : Number) → Summed m ts x s (t ∷ us) → TermFits m s t x → Summed m ts x (s +ℚ t.value *ℚ x t.id) us
on m ts us t x s h f = record {
  value = +ℚ_assoc s (t.value *ℚ x t.id) (sparse_total us x) ∙ h.value;
  fits = (λ a. (h.fits.0 a).1, λ b. h.fits.1 (f, b));
}

pub summed_more : (m : Room) (ts : List Term) (k : ℕ) (t : Term) (x : Vector) (s r : Number) → k < length ts → t ≡ get_or ts k t → Summed m ts x s (drop k ts) → TermFits m s t x → r ≡ s +ℚ t.value *ℚ x t.id → Summed m ts x r (drop (k + 1) ts)
summed_more m ts k t x s r l e h f g =
    subst (λ (n : ℕ). Summed m ts x r (drop n ts)) (sym (add-one k))
    (subst (λ q. Summed m ts x q (drop (suc k) ts)) (sym g) (on m ts (drop (suc k) ts) t x s (here m ts k t x s l e h) f))

-- a term without room
pub summed_stops : (m : Room) (ts : List Term) (k : ℕ) (t : Term) (x : Vector) (s : Number) → k < length ts → t ≡ get_or ts k t → Summed m ts x s (drop k ts) → (TermFits m s t x → ⊥) → TermsFit m zero_ℚ ts x → ⊥
summed_stops m ts k t x s l e h none f = none ((here m ts k t x s l e h).fits.0 f).0

pub summed_all : (m : Room) (ts : List Term) (k : ℕ) (x : Vector) (s : Number) → length ts ≤ k → Summed m ts x s (drop k ts) → (s ≡ sparse_total ts x) × TermsFit m zero_ℚ ts x
summed_all m ts k x s l h = by (subst (λ us. Summed m ts x s us) (drop_of_length-le ts l) h)
  where
    by : Summed m ts x s [] → (s ≡ sparse_total ts x) × TermsFit m zero_ℚ ts x
    by g = (sym (+ℚ_comm s zero_ℚ ∙ zero-+ℚ s) ∙ g.value, g.fits.1 tt)

pub not_so : false ≡ true → ⊥
not_so e = cc
