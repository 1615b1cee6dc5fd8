-- A lift, one record at a time from the last on.
use Rattle.std.proofs.Common.{◌≡◌, ℕ, zero, suc, pred, ◌<◌, List, [], ◌∷◌, length, drop, get_or, sym, ap, ◌∙◌, subst, arith}
use Rattle.std.proofs.Math.Seq.{drop-cons}
use Rattle.fractions.specs.Room.{Room}
use Rattle.lp_model.specs.Vectors.{Vector}
use Rattle.undo_records.specs.declared.undo.Undo.{Undo}
use Rattle.undo_records.specs.Lift.{undone, lift}
use Rattle.undo_records.specs.Room.{UndoFits, LiftFits, StopsAt}

-- record n, and those after it
from_here : (us : List Undo) (n : ℕ) (u : Undo) → n < length us → u ≡ get_or us n u → drop n us ≡ u ∷ drop (suc n) us
from_here us n u l e = drop-cons us n u l ∙ ap (λ (v : Undo). v ∷ drop (suc n) us) (sym e)

pub lifted_more : (us : List Undo) (n m : ℕ) (u : Undo) (x y z : Vector) → n < length us → m ≡ suc n → u ≡ get_or us n u → y ≡ lift (drop m us) x → z ≡ undone u y → z ≡ lift (drop n us) x
lifted_more us n m u x y z l em eu ey ez =
    ez ∙ ap (undone u) (ey ∙ ap (λ (k : ℕ). lift (drop k us) x) em) ∙ sym (ap (λ vs. lift vs x) (from_here us n u l eu))

pub fits_more : (r : Room) (us : List Undo) (n m : ℕ) (u : Undo) (x y : Vector) → n < length us → m ≡ suc n → u ≡ get_or us n u → y ≡ lift (drop m us) x → LiftFits r (drop m us) x → UndoFits r u y → LiftFits r (drop n us) x
fits_more r us n m u x y l em eu ey f g =
    subst (λ vs. LiftFits r vs x) (sym (from_here us n u l eu))
    (subst (λ (k : ℕ). LiftFits r (drop k us) x) em f, subst (λ w. UndoFits r u w) (ey ∙ ap (λ (k : ℕ). lift (drop k us) x) em) g)

-- record n doesn't fit
pub stops : (r : Room) (us : List Undo) (n m : ℕ) (u : Undo) (x y : Vector) → n < length us → m ≡ suc n → u ≡ get_or us n u → y ≡ lift (drop m us) x → LiftFits r (drop m us) x → (UndoFits r u y → ⊥) → StopsAt r us x m
stops r us n m u x y l em eu ey f g = record {
  within = omega arith;
  after = f;
  here = λ h. g (here (subst (λ (k : ℕ). LiftFits r (drop (pred k) us) x) em h));
}
  where
    here : LiftFits r (drop n us) x → UndoFits r u y
    here h = subst (λ w. UndoFits r u w) (sym (ey ∙ ap (λ (k : ℕ). lift (drop k us) x) em)) (subst (λ vs. LiftFits r vs x) (from_here us n u l eu) h).1

-- what fits, fits from record n on
pub fits_from : (r : Room) (us : List Undo) (n : ℕ) (x : Vector) → LiftFits r us x → LiftFits r (drop n us) x
fits_from r [] zero x h = h
fits_from r [] (suc n) x h = h
fits_from r (u ∷ us) zero x h = h
fits_from r (u ∷ us) (suc n) x h = fits_from r us n x h.0

-- a lift that stops doesn't fit
pub stopped : (r : Room) (us : List Undo) (x : Vector) (m : ℕ) → StopsAt r us x m → LiftFits r us x → ⊥
stopped r us x m s h = s.here (fits_from r us (pred m) x h)
