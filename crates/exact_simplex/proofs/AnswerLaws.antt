-- What is answered at the end of a run.
use Rattle.std.proofs.Common.{◌≡◌, inr, ℕ, List, Some, length, refl, sym, ◌∙◌}
use Rattle.fractions.specs.Number.{Number, zero_ℚ}
use Rattle.lp_model.specs.Vectors.{vector_of}
use Rattle.lp_model.specs.LinearProgram.{cost_at}
use Rattle.lp_model.specs.ProgramData.{ProgramData}
use Rattle.lp_model.specs.Meaning.{meaning}
use Rattle.lp_model.specs.Optimality.{Continuous}
use Rattle.lp_model.specs.Room.{CostFits}
use Rattle.lp_model.specs.Turning.{signed}
use Rattle.tableau_laws.specs.Tableaus.{Tableau}
use Rattle.simplex_laws.specs.Runs.{EndsBest, duals_at}
use Rattle.simplex_laws.specs.Solved.{duals_in}
use Rattle.simplex_laws.proofs.Runs.{infeasible_in, unbounded_in, best_in}
use Rattle.simplex_laws.proofs.Sames.{cost_same, cost_fits, meets_same}
use Rattle.simplex_tableau.specs.Programs.{minimized}
use Rattle.simplex_tableau.specs.Starting.{Lists}
use Rattle.exact_simplex.specs.Answers.{IsAnswer, IsTrueOf}
use Rattle.exact_simplex.specs.RunEnds.{RunEnds}
use Rattle.exact_simplex.specs.declared.solving.Solved.{Solved}
use Rattle.exact_simplex.specs.declared.solving.Solved.TheVariants.{Optimal, Infeasible, Unbounded, Spent, Past}
use Rattle.exact_simplex.specs.declared.runs.Ending.TheVariants.{Ended}
use Rattle.simplex_steps.specs.declared.steps.End.TheVariants as end

pub optimal_of : (p : ProgramData) (t : Tableau) (k : ℕ) (x y : List Number) (c : Number) → Lists zero_ℚ (λ j v. v ≡ t.values j) (length p.columns) x → Lists zero_ℚ (λ i v. v ≡ signed p.sense (duals_at (meaning p) t i)) (length p.rows) y
    → CostFits (meaning p) (vector_of x) → c ≡ cost_at (meaning p) (vector_of x) → (N : ℕ) → EndsBest (minimized p) N k t → IsAnswer p N (Optimal (record { point = x; duals = Some y }) c k)
optimal_of p t k x y c hx hy f e N h = (
  y,
  refl,
  hx.long,
  hy.long,
  record {
    tableau = t;
    ends = h;
    point = hx.each;
    duals = hy.each;
    room = cost_fits (meaning p) (vector_of x) t.values hx.each f;
    cost_is = e ∙ cost_same (meaning p) (vector_of x) t.values hx.each;
  },
)

pub past_of : (p : ProgramData) (t : Tableau) (k : ℕ) (x : List Number) → Lists zero_ℚ (λ j v. v ≡ t.values j) (length p.columns) x → (CostFits (meaning p) (vector_of x) → ⊥) → (N : ℕ) → EndsBest (minimized p) N k t → IsAnswer p N (Past k)
past_of p t k x hx n N h = inr (t, h, λ f. n (cost_fits (meaning p) t.values (vector_of x) (λ j l. sym (hx.each j l)) f))

pub infeasible_of : (p : ProgramData) (t : Tableau) (k N : ℕ) → RunEnds (minimized p) N (Ended end.Infeasible k) t → IsAnswer p N Infeasible
infeasible_of p t k N h = inr (k, t, h.0, h.1.0, h.1.1, h.1.2, h.1.3, h.1.4)

pub unbounded_of : (p : ProgramData) (t : Tableau) (k N : ℕ) → RunEnds (minimized p) N (Ended end.Unbounded k) t → IsAnswer p N Unbounded
unbounded_of p t k N h = (k, t, h.0, h.1.0, h.1.1, h.1.2, h.1.3)

pub answer_true : (p : ProgramData) (N : ℕ) (a : Solved) → Continuous (meaning p) → IsAnswer p N a → IsTrueOf p a
answer_true p N (Optimal pair cost k) c h = (
  h.0,
  h.1,
  meets_same p.sense (meaning p) h.4.tableau.values (vector_of pair.point) (duals_in p.sense (meaning p) h.4.tableau) (vector_of h.0)
      (λ j l. sym (h.4.point j l)) (λ i l. sym (h.4.duals i l)) (best_in p.sense (meaning p) N k h.4.tableau c h.4.ends),
  h.4.cost_is ∙ sym (cost_same (meaning p) (vector_of pair.point) h.4.tableau.values h.4.point),
)
answer_true p N Infeasible c h = infeasible_in p.sense (meaning p) N h
answer_true p N Unbounded c h = unbounded_in p.sense (meaning p) N c h
answer_true p N Spent c h = tt
answer_true p N (Past k) c h = tt
