-- A lift, one record at a time from the last on.
use Rattle.std.proofs.Common.{◌≡◌, ℕ, zero, suc, pred, ◌<◌, List, [], ◌∷◌, length, drop, get_or, sym, ap, ◌∙◌, subst, arith}
use Rattle.std.proofs.Math.Seq.{drop-cons}
use Rattle.lp_rays.specs.Ray.{Weights}
use Rattle.ray_steps.specs.StepBack.{StepBack, lift_ray}
use Rattle.ray_steps.specs.RayRoom.{LiftFits, RayStopsAt}
use Rattle.ray_steps.specs.StepBack.{weighed}
use Rattle.ray_steps.specs.RayRoom.{WeighedFits}

abbrev pub undone_step : StepBack → Weights → Weights
undone_step u w = weighed u.undo u.low u.high w

abbrev pub OneStepFits : StepBack → Weights → Type 0
OneStepFits u w = WeighedFits u.undo u.low u.high w

-- record n, and those after it
from_here : (us : List StepBack) (n : ℕ) (u : StepBack) → n < length us → u ≡ get_or us n u → drop n us ≡ u ∷ drop (suc n) us
from_here us n u l e = drop-cons us n u l ∙ ap (λ (v : StepBack). v ∷ drop (suc n) us) (sym e)

pub lifted_more : (us : List StepBack) (n m : ℕ) (u : StepBack) (x y z : Weights) → n < length us → m ≡ suc n → u ≡ get_or us n u → y ≡ lift_ray (drop m us) x → z ≡ undone_step u y → z ≡ lift_ray (drop n us) x
lifted_more us n m u x y z l em eu ey ez =
    ez ∙ ap (undone_step u) (ey ∙ ap (λ (k : ℕ). lift_ray (drop k us) x) em) ∙ sym (ap (λ vs. lift_ray vs x) (from_here us n u l eu))

pub fits_more : (us : List StepBack) (n m : ℕ) (u : StepBack) (x y : Weights) → n < length us → m ≡ suc n → u ≡ get_or us n u → y ≡ lift_ray (drop m us) x → LiftFits (drop m us) x → OneStepFits u y → LiftFits (drop n us) x
fits_more us n m u x y l em eu ey f g =
    subst (λ vs. LiftFits vs x) (sym (from_here us n u l eu))
    (subst (λ (k : ℕ). LiftFits (drop k us) x) em f, subst (λ w. OneStepFits u w) (ey ∙ ap (λ (k : ℕ). lift_ray (drop k us) x) em) g)

-- record n doesn't fit
pub stops : (us : List StepBack) (n m : ℕ) (u : StepBack) (x y : Weights) → n < length us → m ≡ suc n → u ≡ get_or us n u → y ≡ lift_ray (drop m us) x → LiftFits (drop m us) x → (OneStepFits u y → ⊥) → RayStopsAt us x m
stops us n m u x y l em eu ey f g = record {
  within = omega arith;
  after = f;
  here = λ h. g (here (subst (λ (k : ℕ). LiftFits (drop (pred k) us) x) em h));
}
  where
    here : LiftFits (drop n us) x → OneStepFits u y
    here h = subst (λ w. OneStepFits u w) (sym (ey ∙ ap (λ (k : ℕ). lift_ray (drop k us) x) em)) (subst (λ vs. LiftFits vs x) (from_here us n u l eu) h).1

-- what fits, fits from record n on
fits_from : (us : List StepBack) (n : ℕ) (x : Weights) → LiftFits us x → LiftFits (drop n us) x
fits_from [] zero x h = h
fits_from [] (suc n) x h = h
fits_from (u ∷ us) zero x h = h
fits_from (u ∷ us) (suc n) x h = fits_from us n x h.0

-- a lift that stops doesn't fit
pub stopped : (us : List StepBack) (x : Weights) (m : ℕ) → RayStopsAt us x m → LiftFits us x → ⊥
stopped us x m s h = s.here (fits_from us (pred m) x h)
