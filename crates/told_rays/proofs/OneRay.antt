-- What is told of a ray is one: its text, or the record at which a number has no room.
use Rattle.std.proofs.Common.{◌≡◌, ℕ, pred, List, [], ◌∷◌, ◌++◌, drop, length, sym, ap, ◌∙◌}
use Rattle.lp_model.specs.Names.{names_of_columns, names_of_rows}
use Rattle.lp_model.specs.ProgramData.{ProgramData}
use Rattle.lp_rays.specs.Ray.{Weights}
use Rattle.lp_rays.specs.RayData.{IsSized, RayData, weights_of}
use Rattle.ray_steps.specs.RayRoom.{LiftFits}
use Rattle.ray_steps.specs.StepBack.{StepBack}
use Rattle.ray_text.specs.RayText.{ray_text}
use Rattle.problem_model.specs.Programs.{IsProblemOf}
use Rattle.problem_model.specs.Sparse.{Sparse}
use Rattle.presolve_model.specs.declared.instance.Reduction.{Reduction}
use Rattle.presolve_model.specs.declared.instance.Verdict.{Verdict}
use Rattle.run_rays.specs.Lifting.{last_weights, steps_along}
use Rattle.endings.specs.Ending.{infeasible_line}
use Rattle.ray_file.specs.Telling.{past_lines, StopsAt, TellsRay}
use Rattle.told_rays.proofs.FirstStop.{one_stop, room_drop}
use Rattle.told_rays.proofs.SameNumbers.{numbers_same}

-- ---- as many weights, the same by id
rays_same : (m n : ℕ) (r q : RayData) → IsSized m n r → IsSized m n q → weights_of r ≡ weights_of q → r ≡ q
rays_same m n r q a b e =
    let e1 = numbers_same r.lower_sides q.lower_sides (a.lower_sides ∙ sym b.lower_sides) (ap (λ (w : Weights). w.s) e) in
    let e2 = numbers_same r.upper_sides q.upper_sides (a.upper_sides ∙ sym b.upper_sides) (ap (λ (w : Weights). w.t) e) in
    let e3 = numbers_same r.lower_bounds q.lower_bounds (a.lower_bounds ∙ sym b.lower_bounds) (ap (λ (w : Weights). w.p) e) in
    let e4 = numbers_same r.upper_bounds q.upper_bounds (a.upper_bounds ∙ sym b.upper_bounds) (ap (λ (w : Weights). w.q) e) in
    λ t. record { lower_sides = e1 t; upper_sides = e2 t; lower_bounds = e3 t; upper_bounds = e4 t }

-- ---- of a run of a program, whose problem is p
module _ (program : ProgramData) (p : Sparse) (opened : IsProblemOf program p) (history : List Reduction) (verdict : Verdict) where
  abbrev steps : List StepBack
  steps = steps_along p history

  abbrev Room : List StepBack → Type 0
  Room us = LiftFits us (last_weights p history verdict)

  pub told_same : (text more : List ℕ) → TellsRay program history verdict text → TellsRay program history verdict more → text ≡ more
  told_same text more a b =
      a.written
      ∙ ap (ray_text (names_of_rows program.rows) (names_of_columns program.columns)) (rays_same (length program.rows) (length program.columns) a.ray b.ray a.sized b.sized (a.lifted p opened ∙ sym (b.lifted p opened)))
      ∙ sym b.written

  pub stops_same : (a b : ℕ) → StopsAt program history verdict a → StopsAt program history verdict b → a ≡ b
  stops_same a b s t = one_stop Room tt (λ u us h. h.0) steps a b ((s p opened).after, (s p opened).here) ((t p opened).after, (t p opened).here)

  pub told_or_stopped : (text : List ℕ) (a : ℕ) → TellsRay program history verdict text → StopsAt program history verdict a → ⊥
  told_or_stopped text a r s = (s p opened).here (room_drop Room tt (λ u us h. h.0) steps (pred a) (r.fits p opened))

-- ---- the lines
longer : (xs : List ℕ) (y : ℕ) (ys : List ℕ) → xs ≡ xs ++ y ∷ ys → ⊥
longer [] y ys e = let f : [] ≡ y ∷ ys = e in cc
longer (x ∷ xs) y ys e = longer xs y ys (ap (drop 1) e)

-- that a number has no room is not said by the first line alone
pub says_more : (a : ℕ) → infeasible_line ≡ past_lines a → ⊥
says_more a e = longer infeasible_line 114 _ e
