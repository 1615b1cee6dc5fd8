-- What the end of a run says of its program.
use Rattle.std.proofs.Common.{◌≡◌, ℕ, ◌<◌, inl, inr, subst, true}
use Rattle.fractions.specs.Number.{Number}
use Rattle.lp_model.specs.declared.program.Sense.{Sense}
use Rattle.lp_model.specs.declared.program.Sense.TheVariants.{Min, Max}
use Rattle.lp_model.specs.LinearProgram.{LinearProgram}
use Rattle.lp_model.specs.Optimality.{Continuous, Meets}
use Rattle.lp_model.specs.Verdicts.{NoPoint, Endless}
use Rattle.lp_model.specs.Turning.{negated, minimizing}
use Rattle.lp_passages.proofs.Turns.{no_point_in, endless_max, meets_back}
use Rattle.simplex_laws.specs.Solved.{duals_in}
use Rattle.tableau_laws.specs.Variables.{lower_end, upper_end}
use Rattle.tableau_laws.specs.Tableaus.{Tableau}
use Rattle.tableau_laws.specs.Keeping.{IsTableau}
use Rattle.simplex_laws.specs.Choices.{IsPast, NoneEnters, towards, downhill, direction}
use Rattle.simplex_laws.specs.Runs.{EndsInfeasible, EndsUnbounded, EndsBest, duals_at}
use Rattle.simplex_laws.proofs.Results.{stuck_below, stuck_above, crossed_none, optimal_meets, free_endless}
use Rattle.simplex_laws.proofs.Steps.{reached_is_tableau, goes, can_enter, free}

stuck : (M : LinearProgram) (t : Tableau) (b : ℕ) (bound s : Number) → IsTableau M t → b < t.size → IsPast (lower_end M b) (upper_end M b) (t.values b) bound s → t.basic b ≡ true → NoneEnters M t (towards t b s) → NoPoint M
stuck M t b bound s i l (inl h) q n = stuck_below M t b bound i l q h.0 h.1 (subst (λ z. NoneEnters M t (towards t b z)) h.2 n)
stuck M t b bound s i l (inr h) q n = stuck_above M t b bound i l q h.0 h.1 (subst (λ z. NoneEnters M t (towards t b z)) h.2 n)

pub infeasible_none : (M : LinearProgram) (N : ℕ) → EndsInfeasible M N → NoPoint M
infeasible_none M N (inl h) = crossed_none M h.0 h.1 h.2
infeasible_none M N (inr h) = stuck M h.1 h.3 h.4 h.5 (reached_is_tableau M h.0 h.1 h.2.reached) h.6.within h.6.past h.6.basic h.7

pub best_meets : (M : LinearProgram) (N k : ℕ) (t : Tableau) → Continuous M → EndsBest M N k t → Meets Min M t.values (duals_at M t)
best_meets M N k t c h = optimal_meets M t (reached_is_tableau M k t h.0.reached) c h.0.in_order h.1 h.2

pub unbounded_endless : (M : LinearProgram) (N : ℕ) → Continuous M → EndsUnbounded M N → Endless Min M
unbounded_endless M N c h =
    let t : Tableau = h.1 in
    let i : IsTableau M t = reached_is_tableau M h.0 t h.2.reached in
    free_endless M t h.4 (direction t h.4) i c h.2.in_order h.3 (can_enter M t (downhill t) h.4 h.5) (goes M t h.4 h.5.moves).lowers (free M t h.4 i h.5 h.6)

-- ---- in both senses
pub infeasible_in : (s : Sense) (M : LinearProgram) (N : ℕ) → EndsInfeasible (minimizing s M) N → NoPoint M
infeasible_in s M N h = no_point_in s M (infeasible_none (minimizing s M) N h)

pub unbounded_in : (s : Sense) (M : LinearProgram) (N : ℕ) → Continuous M → EndsUnbounded (minimizing s M) N → Endless s M
unbounded_in Min M N c h = unbounded_endless M N c h
unbounded_in Max M N c h = endless_max M (unbounded_endless (negated M) N c h)

pub best_in : (s : Sense) (M : LinearProgram) (N k : ℕ) (t : Tableau) → Continuous M → EndsBest (minimizing s M) N k t → Meets s M t.values (duals_in s M t)
best_in Min M N k t c h = best_meets M N k t c h
best_in Max M N k t c h = meets_back M t.values (duals_at M t) (best_meets (negated M) N k t c h)
