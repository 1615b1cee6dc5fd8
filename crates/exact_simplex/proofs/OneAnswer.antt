-- A program has one answer.
use Rattle.std.proofs.Common.{◌≡◌, inl, inr, ℕ, ◌<◌, List, Some, length, sym, refl, ap, ap₂, ◌∙◌, subst}
use Rattle.std.proofs.lemmas.List.{ext_get_or}
use Rattle.fractions.specs.Number.{Number, zero_ℚ}
use Rattle.lp_model.specs.declared.point.Pair.{Pair}
use Rattle.lp_model.specs.Vectors.{vector_of}
use Rattle.lp_model.specs.LinearProgram.{cost_at}
use Rattle.lp_model.specs.Room.{CostFits}
use Rattle.lp_model.specs.ProgramData.{ProgramData}
use Rattle.lp_model.specs.Meaning.{meaning}
use Rattle.tableau_laws.specs.Tableaus.{Tableau}
use Rattle.simplex_laws.specs.Runs.{EndsBest}
use Rattle.simplex_laws.specs.Solved.{duals_in}
use Rattle.simplex_laws.specs.Outcomes as outcome
use Rattle.simplex_laws.proofs.OneEnd.{ends_one, best_one}
use Rattle.simplex_tableau.specs.Programs.{minimized}
use Rattle.exact_simplex.specs.Answers.{IsAnswer}
use Rattle.exact_simplex.specs.declared.solving.Solved.{Solved}
use Rattle.exact_simplex.specs.declared.solving.Solved.TheVariants.{Optimal, Infeasible, Unbounded, Spent, Past}

-- the end of the run by which an answer is given
abbrev outcome_of : (p : ProgramData) (N : ℕ) (a : Solved) → IsAnswer p N a → outcome.Outcome
outcome_of p N (Optimal pair cost k) h = outcome.Best k
outcome_of p N Infeasible h = outcome.Infeasible
outcome_of p N Unbounded h = outcome.Unbounded
outcome_of p N Spent h = outcome.Spent
outcome_of p N (Past k) (inl h) = outcome.Past k
outcome_of p N (Past k) (inr h) = outcome.Best k

ends_of : (p : ProgramData) (N : ℕ) (a : Solved) (h : IsAnswer p N a) → outcome.EndsAs (minimized p) N (outcome_of p N a h)
ends_of p N (Optimal pair cost k) h = (h.4.tableau, h.4.ends)
ends_of p N Infeasible h = h
ends_of p N Unbounded h = h
ends_of p N Spent h = h
ends_of p N (Past k) (inl h) = h
ends_of p N (Past k) (inr h) = (h.0, h.1)

same_end : (p : ProgramData) (N : ℕ) (a b : Solved) (h : IsAnswer p N a) (g : IsAnswer p N b) → outcome_of p N a h ≡ outcome_of p N b g
same_end p N a b h g = ends_one (minimized p) N (outcome_of p N a h) (outcome_of p N b g) (ends_of p N a h) (ends_of p N b g)

best_count : (i j : ℕ) → outcome.Best i ≡ outcome.Best j → i ≡ j
best_count i j e = cc

past_count : (i j : ℕ) → outcome.Past i ≡ outcome.Past j → i ≡ j
past_count i j e = cc

-- lists that have the same numbers
same_numbers : (n : ℕ) (xs ys : List Number) (f g : ℕ → Number) → length xs ≡ n → length ys ≡ n → ((k : ℕ) → k < n → vector_of xs k ≡ f k) → ((k : ℕ) → k < n → vector_of ys k ≡ g k) → f ≡ g → xs ≡ ys
same_numbers n xs ys f g lx ly hx hy e = ext_get_or zero_ℚ xs ys (lx ∙ sym ly)
    (λ k l. let m : k < n = subst (λ i. k < i) lx l in hx k m ∙ ap (λ (w : ℕ → Number). w k) e ∙ sym (hy k m))

same_tableau : (p : ProgramData) (N i j : ℕ) (t u : Tableau) → EndsBest (minimized p) N i t → EndsBest (minimized p) N j u → i ≡ j → t ≡ u
same_tableau p N i j t u h g e = best_one (minimized p) N j t u (subst (λ k. EndsBest (minimized p) N k t) e h) g

same_pair : (pair other : Pair) (xs ys : List Number) → pair.duals ≡ Some xs → other.duals ≡ Some ys → pair.point ≡ other.point → xs ≡ ys → pair ≡ other
same_pair pair other xs ys ex ey ep ed = λ i. record { point = ep i; duals = (ex ∙ ap (λ (zs : List Number). Some zs) ed ∙ sym ey) i }

optimal_one : (p : ProgramData) (N i j : ℕ) (pair other : Pair) (c d : Number) → i ≡ j → IsAnswer p N (Optimal pair c i) → IsAnswer p N (Optimal other d j) → Optimal pair c i ≡ Optimal other d j
optimal_one p N i j pair other c d e h g =
    let t : h.4.tableau ≡ g.4.tableau = same_tableau p N i j h.4.tableau g.4.tableau h.4.ends g.4.ends e in
    let points : pair.point ≡ other.point = same_numbers (length p.columns) pair.point other.point h.4.tableau.values g.4.tableau.values h.2 g.2 h.4.point g.4.point (ap (λ (w : Tableau). w.values) t) in
    let duals : h.0 ≡ g.0 = same_numbers (length p.rows) h.0 g.0 (duals_in p.sense (meaning p) h.4.tableau) (duals_in p.sense (meaning p) g.4.tableau) h.3 g.3 h.4.duals g.4.duals (ap (λ (w : Tableau). duals_in p.sense (meaning p) w) t) in
    let cost : c ≡ d = h.4.cost_is ∙ ap (λ (w : Tableau). cost_at (meaning p) w.values) t ∙ sym g.4.cost_is in
    ap (λ (q : Pair). Optimal q c i) (same_pair pair other h.0 g.0 h.1 g.1 points duals) ∙ ap₂ (λ (z : Number) k. Optimal other z k) cost e

-- the cost of a best point has room, or not
no_cost : (p : ProgramData) (N i j : ℕ) (t u : Tableau) → i ≡ j → EndsBest (minimized p) N i t → EndsBest (minimized p) N j u → CostFits (meaning p) t.values → (CostFits (meaning p) u.values → ⊥) → ⊥
no_cost p N i j t u e h g f n = n (subst (λ (w : Tableau). CostFits (meaning p) w.values) (same_tableau p N i j t u h g e) f)

pub answer_one : (p : ProgramData) (N : ℕ) (a b : Solved) → IsAnswer p N a → IsAnswer p N b → a ≡ b
answer_one p N a b h g = by a b h g (same_end p N a b h g)
  where
    by : (a b : Solved) (h : IsAnswer p N a) (g : IsAnswer p N b) → outcome_of p N a h ≡ outcome_of p N b g → a ≡ b
    by (Optimal pair c i) (Optimal other d j) h g e = optimal_one p N i j pair other c d (best_count i j e) h g
    by (Optimal pair c i) Infeasible h g e = cc
    by (Optimal pair c i) Unbounded h g e = cc
    by (Optimal pair c i) Spent h g e = cc
    by (Optimal pair c i) (Past j) h (inl g) e = cc
    by (Optimal pair c i) (Past j) h (inr g) e = absurd (no_cost p N i j h.4.tableau g.0 (best_count i j e) h.4.ends g.1 h.4.room g.2)
    by Infeasible (Optimal other d j) h g e = cc
    by Infeasible Infeasible h g e = refl
    by Infeasible Unbounded h g e = cc
    by Infeasible Spent h g e = cc
    by Infeasible (Past j) h (inl g) e = cc
    by Infeasible (Past j) h (inr g) e = cc
    by Unbounded (Optimal other d j) h g e = cc
    by Unbounded Infeasible h g e = cc
    by Unbounded Unbounded h g e = refl
    by Unbounded Spent h g e = cc
    by Unbounded (Past j) h (inl g) e = cc
    by Unbounded (Past j) h (inr g) e = cc
    by Spent (Optimal other d j) h g e = cc
    by Spent Infeasible h g e = cc
    by Spent Unbounded h g e = cc
    by Spent Spent h g e = refl
    by Spent (Past j) h (inl g) e = cc
    by Spent (Past j) h (inr g) e = cc
    by (Past i) (Optimal other d j) (inl h) g e = cc
    by (Past i) (Optimal other d j) (inr h) g e = absurd (no_cost p N j i g.4.tableau h.0 (sym (best_count i j e)) g.4.ends h.1 g.4.room h.2)
    by (Past i) Infeasible (inl h) g e = cc
    by (Past i) Infeasible (inr h) g e = cc
    by (Past i) Unbounded (inl h) g e = cc
    by (Past i) Unbounded (inr h) g e = cc
    by (Past i) Spent (inl h) g e = cc
    by (Past i) Spent (inr h) g e = cc
    by (Past i) (Past j) (inl h) (inl g) e = ap Past (past_count i j e)
    by (Past i) (Past j) (inl h) (inr g) e = cc
    by (Past i) (Past j) (inr h) (inl g) e = cc
    by (Past i) (Past j) (inr h) (inr g) e = ap Past (best_count i j e)
