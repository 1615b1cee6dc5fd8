-- A lift, one record at a time from the last on.
use Rattle.std.proofs.Common.{◌≡◌, ℕ, zero, suc, pred, ◌<◌, List, [], ◌∷◌, length, drop, get_or, sym, ap, ◌∙◌, subst, arith}
use Rattle.std.proofs.Math.Seq.{drop-cons}
use Rattle.fractions.specs.Room.{Room}
use Rattle.lp_model.specs.Reductions.{Priced}
use Rattle.undo_records.specs.declared.undo.Undo.{Undo}
use Rattle.undo_pairs.specs.LiftPair.{undone_pair, lift_pair}
use Rattle.postsolve_dual.specs.PairRoom.{PairFits, LiftPairFits, PairStopsAt}

-- record n, and those after it
from_here : (us : List Undo) (n : ℕ) (u : Undo) → n < length us → u ≡ get_or us n u → drop n us ≡ u ∷ drop (suc n) us
from_here us n u l e = drop-cons us n u l ∙ ap (λ (v : Undo). v ∷ drop (suc n) us) (sym e)

pub lifted_more : (us : List Undo) (n m : ℕ) (u : Undo) (x y z : Priced) → n < length us → m ≡ suc n → u ≡ get_or us n u → y ≡ lift_pair (drop m us) x → z ≡ undone_pair u y → z ≡ lift_pair (drop n us) x
lifted_more us n m u x y z l em eu ey ez =
    ez ∙ ap (undone_pair u) (ey ∙ ap (λ (k : ℕ). lift_pair (drop k us) x) em) ∙ sym (ap (λ vs. lift_pair vs x) (from_here us n u l eu))

pub fits_more : (r : Room) (us : List Undo) (n m : ℕ) (u : Undo) (x y : Priced) → n < length us → m ≡ suc n → u ≡ get_or us n u → y ≡ lift_pair (drop m us) x → LiftPairFits r (drop m us) x → PairFits r u y → LiftPairFits r (drop n us) x
fits_more r us n m u x y l em eu ey f g =
    subst (λ vs. LiftPairFits r vs x) (sym (from_here us n u l eu))
    (subst (λ (k : ℕ). LiftPairFits r (drop k us) x) em f, subst (λ w. PairFits r u w) (ey ∙ ap (λ (k : ℕ). lift_pair (drop k us) x) em) g)

-- record n doesn't fit
pub stops : (r : Room) (us : List Undo) (n m : ℕ) (u : Undo) (x y : Priced) → n < length us → m ≡ suc n → u ≡ get_or us n u → y ≡ lift_pair (drop m us) x → LiftPairFits r (drop m us) x → (PairFits r u y → ⊥) → PairStopsAt r us x m
stops r us n m u x y l em eu ey f g = record {
  within = omega arith;
  after = f;
  here = λ h. g (here (subst (λ (k : ℕ). LiftPairFits r (drop (pred k) us) x) em h));
}
  where
    here : LiftPairFits r (drop n us) x → PairFits r u y
    here h = subst (λ w. PairFits r u w) (sym (ey ∙ ap (λ (k : ℕ). lift_pair (drop k us) x) em)) (subst (λ vs. LiftPairFits r vs x) (from_here us n u l eu) h).1

-- what fits, fits from record n on
fits_from : (r : Room) (us : List Undo) (n : ℕ) (x : Priced) → LiftPairFits r us x → LiftPairFits r (drop n us) x
fits_from r [] zero x h = h
fits_from r [] (suc n) x h = h
fits_from r (u ∷ us) zero x h = h
fits_from r (u ∷ us) (suc n) x h = fits_from r us n x h.0

-- a lift that stops doesn't fit
pub stopped : (r : Room) (us : List Undo) (x : Priced) (m : ℕ) → PairStopsAt r us x m → LiftPairFits r us x → ⊥
stopped r us x m s h = s.here (fits_from r us (pred m) x h)
