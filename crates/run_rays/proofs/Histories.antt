-- Rays along histories.
use Rattle.std.proofs.Common.{◌≡◌, ℕ, ◌<◌, List, [], ◌∷◌, ◌++◌, length, refl, sym, ap, ap₂, ◌∙◌, subst, arith, Bool, true, Result, Ok, Err}
use Rattle.std.specs.List.{All}
use Rattle.std.proofs.lemmas.List.Elements.{All-cons}
use Rattle.fractions.specs.declared.Numbers.{Numbers}
use Rattle.lp_model.specs.declared.program.Sense.{Sense}
use Rattle.lp_model.specs.declared.program.Sense.TheVariants.{Min, Max}
use Rattle.lp_model.specs.LinearProgram.{LinearProgram}
use Rattle.lp_model.specs.Meaning.{meaning}
use Rattle.lp_model.specs.Optimality.{Continuous}
use Rattle.lp_model.specs.ProgramData.{ProgramData}
use Rattle.lp_model.specs.Turning.{minimizing}
use Rattle.lp_rays.specs.Ray.{Ray, StepsBack, Weights}
use Rattle.lp_rays.proofs.Moving.{ray_back}
use Rattle.undo_records.specs.Sound.{IsSound}
use Rattle.problem_model.specs.Problems.{IsSparse}
use Rattle.problem_model.specs.Programs.{IsProblemOf}
use Rattle.problem_model.specs.Showing.{shown}
use Rattle.problem_model.specs.Sparse.{Sparse}
use Rattle.program_laws.proofs.ProblemsShow.{problem_shows_program, columns_length}
use Rattle.presolve_model.specs.declared.instance.Reduction.{Reduction}
use Rattle.presolve_model.specs.Changes.{changed}
use Rattle.presolve_model.specs.Replay.{replay, Replays}
use Rattle.presolve_model.specs.Tables.{record_of}
use Rattle.presolve_model.proofs.Tabled.{continuous_changed, rays_changed, same_size, sound_changed, sound_record}
use Rattle.ray_steps.specs.StepBack.{StepBack, lift_ray, step_of}
use Rattle.ray_step_laws.proofs.Joining.{none, step}
use Rattle.ray_steps.specs.RayRoom.{LiftFits, RayStopsAt}
use Rattle.ray_starts.specs.Starts.{start_of}
use Rattle.presolve_model.specs.declared.instance.Instance.TheVariants as at
use Rattle.presolve_model.specs.declared.instance.Verdict.{Verdict}
use Rattle.presolve_model.specs.Enabled.{enabled_on}
use Rattle.lp_rays.specs.RayData.{IsSized, RayData}
use Rattle.run_laws.proofs.OneProblem.{one_problem}
use Rattle.std.specs.Prelude.{IsErrOf}
use Rattle.run_rays.specs.Lifting.{IsEndOf, last_weights, ray_of, steps_along}
use Rattle.run_rays.specs.declared.of_run.RayError.{RayError}
use Rattle.run_rays.specs.declared.of_run.RayError.TheVariants.{NoMemory, Past}

pub rays_along : (numbers : Numbers) (p : Sparse) (rs : List Reduction) → IsSparse p → Replays numbers p rs → Continuous (shown p) → StepsBack (shown p) (shown (replay p rs)) (lift_ray (steps_along p rs))
rays_along numbers p [] s h continuous = none (shown p)
rays_along numbers p (r ∷ rs) s h continuous =
    let q : Sparse = changed r p in
    step (shown p) (shown q) (shown (replay q rs)) (record_of r p) (steps_along q rs) (rays_changed p r s h.0.enabled continuous)
    (rays_along numbers q rs (sound_changed p r s h.0.enabled) h.1 (continuous_changed p r s h.0.enabled continuous))

-- ---- the records of the steps are sound
pub steps_sound : (numbers : Numbers) (p : Sparse) (rs : List Reduction) (m n : ℕ) → IsSparse p → Replays numbers p rs → length p.matrix.rows ≡ m → length p.matrix.columns ≡ n
    → All (λ (u : StepBack). IsSound m n u.undo) (steps_along p rs)
steps_sound numbers p [] m n s h em en = λ k d lt. absurd (omega (arith, lt))
steps_sound numbers p (r ∷ rs) m n s h em en = All-cons (λ (u : StepBack). IsSound m n u.undo) (step_of (record_of r p) (shown (changed r p))) (steps_along (changed r p) rs)
    (subst (λ k. IsSound k n (record_of r p)) em (subst (λ k. IsSound (length p.matrix.rows) k (record_of r p)) en (sound_record p r s h.0.enabled)))
    (steps_sound numbers (changed r p) rs m n (sound_changed p r s h.0.enabled) h.1 ((same_size p r).rows ∙ em) ((same_size p r).columns ∙ en))

-- ---- from the program's problem to the program: costs do not matter
continuous_minimizing : (d : Sense) (M : LinearProgram) → Continuous M → Continuous (minimizing d M)
continuous_minimizing Min M h = h
continuous_minimizing Max M h = h

ray_in_sense : (d : Sense) (M : LinearProgram) (w : Weights) → Ray (minimizing d M) w → Ray M w
ray_in_sense Min M w h = h
ray_in_sense Max M w h = record { weighting = record { rows = h.weighting.rows; columns = h.weighting.columns; nets = h.weighting.nets }; positive = h.positive }

pub ray_of_program : (numbers : Numbers) (program : ProgramData) (p : Sparse) (rs : List Reduction) (w : Weights) → IsProblemOf program p → Continuous (meaning program) → Replays numbers p rs
    → Ray (shown (replay p rs)) w → Ray (meaning program) (lift_ray (steps_along p rs) w)
ray_of_program numbers program p rs w o continuous h ray =
    let shows : shown p ≡ minimizing program.sense (meaning program) = problem_shows_program program p o in
    ray_in_sense program.sense (meaning program) (lift_ray (steps_along p rs) w)
    (subst (λ (M : LinearProgram). Ray M (lift_ray (steps_along p rs) w)) shows
    (ray_back (shown p) (shown (replay p rs)) (lift_ray (steps_along p rs)) w
    (rays_along numbers p rs o.sound h (subst Continuous (sym shows) (continuous_minimizing program.sense (meaning program) continuous))) ray))

-- ---- a program has one problem
pub at_problem : (program : ProgramData) (p q : Sparse) (X : Sparse → Type 0) → IsProblemOf program p → IsProblemOf program q → X p → X q
at_problem program p q X o r x = subst X (one_problem program p q o r) x

pub replays_here : (numbers : Numbers) (program : ProgramData) (h : List Reduction) (v : Verdict) (p : Sparse) → IsEndOf numbers program h v → IsProblemOf program p → Replays numbers p h
replays_here numbers program h v p e o = at_problem program e.start p (λ q. Replays numbers q h) e.opened o e.replays

pub enabled_here : (numbers : Numbers) (program : ProgramData) (h : List Reduction) (v : Verdict) (p left : Sparse) → IsEndOf numbers program h v → IsProblemOf program p → left ≡ replay p h
    → enabled_on left (at.Verdict v) ≡ true
enabled_here numbers program h v p left e o is =
    subst (λ (q : Sparse). enabled_on q (at.Verdict v) ≡ true) (sym is) (at_problem program e.start p (λ q. enabled_on (replay q h) (at.Verdict v) ≡ true) e.opened o e.enabled)

-- ---- sizes
pub rows_along : (p : Sparse) (rs : List Reduction) → length (replay p rs).matrix.rows ≡ length p.matrix.rows
rows_along p [] = refl
rows_along p (r ∷ rs) = rows_along (changed r p) rs ∙ (same_size p r).rows

pub columns_along : (p : Sparse) (rs : List Reduction) → length (replay p rs).matrix.columns ≡ length p.matrix.columns
columns_along p [] = refl
columns_along p (r ∷ rs) = columns_along (changed r p) rs ∙ (same_size p r).columns

-- numbers of what is left of a program's problem are as many as the program has rows and columns
pub sized_here : (program : ProgramData) (p left : Sparse) (h : List Reduction) (r : RayData) → IsProblemOf program p → left ≡ replay p h → IsSized (length left.matrix.rows) (length left.matrix.columns) r
    → IsSized (length program.rows) (length program.columns) r
sized_here program p left h r o is s =
    subst (λ m. IsSized m (length program.columns) r) (ap (λ (q : Sparse). length q.matrix.rows) is ∙ rows_along p h ∙ o.rows)
    (subst (λ n. IsSized (length left.matrix.rows) n r) (ap (λ (q : Sparse). length q.matrix.columns) is ∙ columns_along p h ∙ columns_length program p o) s)

pub sound_here : (numbers : Numbers) (program : ProgramData) (p left : Sparse) (h : List Reduction) (r : RayData) (steps : List StepBack) → IsProblemOf program p → Replays numbers p h → left ≡ replay p h
    → IsSized (length left.matrix.rows) (length left.matrix.columns) r → steps ≡ steps_along p h → All (λ (u : StepBack). IsSound (length r.lower_sides) (length r.lower_bounds) u.undo) steps
sound_here numbers program p left h r steps o played is s are =
    subst (All (λ (u : StepBack). IsSound (length r.lower_sides) (length r.lower_bounds) u.undo)) (sym are)
    (steps_sound numbers p h (length r.lower_sides) (length r.lower_bounds) o.sound played
    (sym (s.lower_sides ∙ ap (λ (q : Sparse). length q.matrix.rows) is ∙ rows_along p h))
    (sym (s.lower_bounds ∙ ap (λ (q : Sparse). length q.matrix.columns) is ∙ columns_along p h)))

-- ---- the weights with which the lift begins, and those with which it ends
pub starts_with : (p left : Sparse) (h : List Reduction) (v : Verdict) (w : Weights) → left ≡ replay p h → w ≡ start_of (shown left) v → w ≡ last_weights p h v
starts_with p left h v w is e = e ∙ ap (λ (q : Sparse). start_of (shown q) v) is

pub lifts_to : (p : Sparse) (h : List Reduction) (v : Verdict) (steps : List StepBack) (w new : Weights) → steps ≡ steps_along p h → w ≡ last_weights p h v → new ≡ lift_ray steps w → new ≡ ray_of p h v
lifts_to p h v steps w new are starts e = e ∙ ap₂ lift_ray are starts

pub ray_here : (numbers : Numbers) (program : ProgramData) (p left : Sparse) (h : List Reduction) (steps : List StepBack) (w new : Weights) → IsProblemOf program p → Continuous (meaning program) → Replays numbers p h
    → left ≡ replay p h → steps ≡ steps_along p h → Ray (shown left) w → new ≡ lift_ray steps w → Ray (meaning program) new
ray_here numbers program p left h steps w new o continuous played is are ray e =
    subst (Ray (meaning program)) (sym (e ∙ ap (λ us. lift_ray us w) are))
    (ray_of_program numbers program p h w o continuous played (subst (λ (q : Sparse). Ray (shown q) w) is ray))

-- ---- where it stops
abbrev number_of : RayError → ℕ
number_of (Past n) = n
number_of NoMemory = 0

abbrev error_of : {T : Type 0} → Result T RayError → RayError
error_of (Ok r) = NoMemory
error_of (Err e) = e

pub past_same : {T : Type 0} (a b : ℕ) → IsErrOf {T = T} (Err (Past a)) (Past b) → a ≡ b
past_same a b e = ap (λ r. number_of (error_of r)) e

pub stops_here : (program : ProgramData) (p q : Sparse) (h : List Reduction) (v : Verdict) (steps : List StepBack) (w : Weights) (a b : ℕ) → IsProblemOf program p → IsProblemOf program q
    → steps ≡ steps_along p h → w ≡ last_weights p h v → RayStopsAt steps w a → a ≡ b → RayStopsAt (steps_along q h) (last_weights q h v) b
stops_here program p q h v steps w a b o r are starts stops same =
    at_problem program p q (λ x. RayStopsAt (steps_along x h) (last_weights x h v) b) o r
    (subst (RayStopsAt (steps_along p h) (last_weights p h v)) same
    (subst (λ (us : List StepBack). RayStopsAt us (last_weights p h v) a) are (subst (λ (x : Weights). RayStopsAt steps x a) starts stops)))

pub fits_here : (program : ProgramData) (p q : Sparse) (h : List Reduction) (v : Verdict) (steps : List StepBack) (w : Weights) → IsProblemOf program p → IsProblemOf program q
    → steps ≡ steps_along p h → w ≡ last_weights p h v → LiftFits steps w → LiftFits (steps_along q h) (last_weights q h v)
fits_here program p q h v steps w o r are starts fits =
    at_problem program p q (λ x. LiftFits (steps_along x h) (last_weights x h v)) o r
    (subst (λ (us : List StepBack). LiftFits us (last_weights p h v)) are (subst (LiftFits steps) starts fits))
