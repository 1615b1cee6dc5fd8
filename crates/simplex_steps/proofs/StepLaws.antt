-- Steps that were made, or had no room.
use Rattle.std.proofs.Common.{◌≡◌, ◌≢◌, inl, inr, ℕ, Bool, Result, Ok, Err, IfErr, IsOk, ◌↔◌, Option, Some, None, refl, sym, ap, ap₂, ◌∙◌, subst}
use Rattle.std.specs.Prelude.{if◌then◌else◌, OnOk}
use Rattle.std.proofs.lemmas.Bool.{eq-eqb, ne_eqb}
use Rattle.fractions.specs.Number.{Number, ◌*ℚ◌}
use Rattle.fractions.specs.Ends.{less, over}
use Rattle.lp_model.specs.LinearProgram.{LinearProgram}
use Rattle.tableau_laws.specs.Variables.{lower_end, upper_end}
use Rattle.tableau_laws.specs.Tableaus.{Tableau, pivoted, shifted, CanPivot}
use Rattle.tableau_laws.specs.Keeping.{IsTableau}
use Rattle.tableau_laws.specs.Room.{ShiftFits, PivotFits}
use Rattle.simplex_laws.specs.LimitRoom.{WidthFits, LimitsFit}
use Rattle.fractions.specs.EndWords.{LessFits, OverFits}
use Rattle.simplex_steps.specs.Steps.{IsStepPast}
use Rattle.simplex_laws.specs.Runs.{Descent, Descends}
use Rattle.simplex_laws.proofs.Determined.{stops_one, some_same}
use Rattle.simplex_laws.proofs.Steps.{can_enter, descent_pivots, ahead_rests}
use Rattle.lp_model.proofs.Sums.{not_so}
use Rattle.simplex_laws.specs.Choices.{end_ahead, own_width, limit, direction, downhill, NoneLeaves, Enters, NoLimit, Stops}

pub if_err : {A E : Type 0} (r : Result A E) (X : Type 0) → X → IfErr r (λ p. X)
if_err (Ok a) X x = tt
if_err (Err e) X x = x

-- the limit at e itself, and at others
pub own_limit : (M : LinearProgram) (t : Tableau) (e m : ℕ) (f : Number) → m ≡ e → limit M t e f m ≡ own_width (lower_end M e) (upper_end M e)
own_limit M t e m f q = ap (λ (b : Bool). if b then own_width (lower_end M e) (upper_end M e) else over (less (end_ahead M t e f m) (t.values m)) (t.table m e *ℚ f)) (eq-eqb m e q)

pub other_limit : (M : LinearProgram) (t : Tableau) (e m : ℕ) (f : Number) → m ≢ e → limit M t e f m ≡ over (less (end_ahead M t e f m) (t.values m)) (t.table m e *ℚ f)
other_limit M t e m f n = ap (λ (b : Bool). if b then own_width (lower_end M e) (upper_end M e) else over (less (end_ahead M t e f m) (t.values m)) (t.table m e *ℚ f)) (ne_eqb m e n)

-- no end ahead, no limit
pub over_none : (o : Option Number) (a x : Number) → o ≡ None → over (less o x) a ≡ None
over_none None a x e = refl
over_none (Some b) a x e = cc

pub over_some : (o : Option Number) (a x : Number) → over (less o x) a ≡ None → o ≡ None
over_some None a x e = refl
over_some (Some b) a x e = cc

-- ---- phase 2's step
-- what is known where e stops at m
pub record Going (M : LinearProgram) (t : Tableau) (e : ℕ) (f : Number) (m : ℕ) (far : Number) : Type 0 where
  pub way : direction t e ≡ f
  pub stops : Stops M t e f m far
  pub room : LimitsFit M t e f

same_stop : (M : LinearProgram) (t : Tableau) (e : ℕ) (f : Number) (m : ℕ) (far : Number) → Going M t e f m far → (next : Tableau) → (d : Descends M t e next) → (d.m ≡ m) × (d.far ≡ far)
same_stop M t e f m far g next d = stops_one M t e f d.m m d.far far (subst (λ w. Stops M t e w d.m d.far) g.way d.stops) g.stops

pub own_made : {E : Type 0} (r : Result (Unit {0}) E) (M : LinearProgram) (t : Tableau) (e : ℕ) (f : Number) (m : ℕ) (far w : Number) (next : Tableau) → Going M t e f m far → m ≡ e → w ≡ f *ℚ far → OnOk r (next ≡ shifted t e w) → IsOk r ↔ ShiftFits t e w → OnOk r (Descends M t e next)
own_made (Ok a) M t e f m far w next g q ew is fits = record {
  room = subst (λ x. LimitsFit M t e x) (sym g.way) g.room;
  m = m;
  far = far;
  stops = subst (λ x. Stops M t e x m far) (sym g.way) g.stops;
  next_is = inl (
    q,
    record {
      room = subst (λ x. ShiftFits t e x) (ew ∙ ap (λ x. x *ℚ far) (sym g.way)) (fits.0 refl);
      is = is ∙ ap (λ x. shifted t e x) (ew ∙ ap (λ x. x *ℚ far) (sym g.way));
    },
  );
}
own_made (Err x) M t e f m far w next g q ew is fits = tt

pub own_past : {E : Type 0} (r : Result (Unit {0}) E) (M : LinearProgram) (t : Tableau) (e : ℕ) (f : Number) (m : ℕ) (far w : Number) → Going M t e f m far → m ≡ e → w ≡ f *ℚ far → IsOk r ↔ ShiftFits t e w → IfErr r (λ p. (next : Tableau) → Descends M t e next → ⊥)
own_past (Ok a) M t e f m far w g q ew fits = tt
own_past (Err x) M t e f m far w g q ew fits = λ next d. let s = same_stop M t e f m far g next d in elim d.next_is [
  | inl own ↦ not_so (fits.1 (subst (λ y. ShiftFits t e y) (ap₂ (λ a b. a *ℚ b) g.way s.1 ∙ sym ew) own.1.room))
  | inr other ↦ other.0 (s.0 ∙ q)
]

pub turn_made : {E : Type 0} (r : Result (Unit {0}) E) (M : LinearProgram) (t : Tableau) (e : ℕ) (f : Number) (m : ℕ) (far bound : Number) (next : Tableau) → Going M t e f m far → m ≢ e → end_ahead M t e f m ≡ Some bound → OnOk r (next ≡ pivoted t m e bound) → IsOk r ↔ PivotFits t m e bound → OnOk r (Descends M t e next)
turn_made (Ok a) M t e f m far bound next g q eb is fits = record {
  room = subst (λ x. LimitsFit M t e x) (sym g.way) g.room;
  m = m;
  far = far;
  stops = subst (λ x. Stops M t e x m far) (sym g.way) g.stops;
  next_is = inr (q, bound, ap (λ x. end_ahead M t e x m) g.way ∙ eb, record { room = fits.0 refl; is = is });
}
turn_made (Err x) M t e f m far bound next g q eb is fits = tt

pub turn_past : {E : Type 0} (r : Result (Unit {0}) E) (M : LinearProgram) (t : Tableau) (e : ℕ) (f : Number) (m : ℕ) (far bound : Number) → Going M t e f m far → m ≢ e → end_ahead M t e f m ≡ Some bound → IsOk r ↔ PivotFits t m e bound → IfErr r (λ p. (next : Tableau) → Descends M t e next → ⊥)
turn_past (Ok a) M t e f m far bound g q eb fits = tt
turn_past (Err x) M t e f m far bound g q eb fits = λ next d. let s = same_stop M t e f m far g next d in elim d.next_is [
  | inl own ↦ q (sym s.0 ∙ own.0)
  | inr other ↦ not_so (fits.1 (subst (λ k. PivotFits t k e bound) s.0
      (subst (λ y. PivotFits t d.m e y) (some_same other.2 (ap₂ (λ x k. end_ahead M t e x k) g.way s.0 ∙ eb)) other.3.room)))
]

pub going_pivots : (M : LinearProgram) (t : Tableau) (e : ℕ) (f : Number) (m : ℕ) (far bound : Number) → IsTableau M t → Enters M t (downhill t) e → Stops M t e f m far → end_ahead M t e f m ≡ Some bound → CanPivot t m e
going_pivots M t e f m far bound i h s eb = descent_pivots M t e m f i (can_enter M t (downhill t) e h) s.within (ahead_rests (t.table m e *ℚ f) (lower_end M m) (upper_end M m) bound eb).1

-- ---- a descent
-- without a limit nothing lacks room
own_fits : (l u : Option Number) → own_width l u ≡ None → WidthFits l u
own_fits None u e = tt
own_fits (Some l) None e = tt
own_fits (Some l) (Some u) e = cc

none_fits : (o : Option Number) (x a : Number) → o ≡ None → LessFits o x × OverFits (less o x) a
none_fits None x a e = (tt, tt)
none_fits (Some b) x a e = cc

pub no_limit_fits : (M : LinearProgram) (t : Tableau) (e : ℕ) (f : Number) → NoLimit M t e f → LimitsFit M t e f
no_limit_fits M t e f n m l = (
  (λ q. own_fits (lower_end M e) (upper_end M e) (sym (own_limit M t e m f q) ∙ n m l)),
  λ q. none_fits (end_ahead M t e f m) (t.values m) (t.table m e *ℚ f) (over_some (end_ahead M t e f m) (t.table m e *ℚ f) (t.values m) (sym (other_limit M t e m f q) ∙ n m l)),
)

-- what stops is limited
pub stops_limited : (M : LinearProgram) (t : Tableau) (e : ℕ) (f : Number) (m : ℕ) (far : Number) → Stops M t e f m far → NoLimit M t e f → ⊥
stops_limited M t e f m far s n = clash (sym (n m s.within) ∙ s.limits)
  where
    clash : None ≡ Some far → ⊥
    clash q = cc

pub descent_by : (M : LinearProgram) (t : Tableau) (e : ℕ) (f : Number) → NoneLeaves M t → Enters M t (downhill t) e → direction t e ≡ f → (NoLimit M t e f → ⊥) → Descent M t
descent_by M t e f r h w n = record { e = e; repaired = r; enters = h; limited = λ k. n (subst (λ x. NoLimit M t e x) w k) }

pub descent_past : (M : LinearProgram) (t : Tableau) (e : ℕ) (f : Number) → NoneLeaves M t → Enters M t (downhill t) e → direction t e ≡ f → (LimitsFit M t e f → ⊥) → IsStepPast M t
unfolding descent_by
descent_past M t e f r h w n = (inr (descent_by M t e f r h w (λ k. n (no_limit_fits M t e f k))), λ next m. n (subst (λ x. LimitsFit M t e x) w m.room))
