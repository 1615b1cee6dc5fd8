-- A run has one end.
use Rattle.std.proofs.Common.{◌≡◌, ℕ, zero, suc, ◌<◌, sym, refl, ap, ◌∙◌, arith, ◌⊎◌, inl, inr, subst}
use Rattle.std.proofs.lemmas.Bool.{cases_order}
use Rattle.fractions.specs.Number.{Number}
use Rattle.lp_model.specs.LinearProgram.{LinearProgram}
use Rattle.lp_theory.specs.Crossed.{AreCrossed}
use Rattle.tableau_laws.specs.Variables.{variables, lower_end, upper_end}
use Rattle.tableau_laws.specs.Tableaus.{Tableau}
use Rattle.tableau_laws.specs.Room.{StartFits}
use Rattle.simplex_laws.specs.Choices.{Leaves, NoneLeaves, Enters, NoneEnters, towards, downhill, direction, NoLimit}
use Rattle.simplex_laws.specs.Runs.{Asks, Makes, Turns, Descends, Reaches, NoneCrossed, Comes, EndsBest}
use Rattle.simplex_laws.specs.Outcomes.{Outcome, Infeasible, Unbounded, Best, Spent, Past, EndsAs}
use Rattle.simplex_laws.proofs.Steps.{reached_is_tableau}
use Rattle.simplex_laws.proofs.Determined.{leaves_one, enters_one, none_or_leaves, reaches_one, stuck_asks, best_asks, endless_asks}

-- what an end says of the tableau to which the run has come
abbrev Stands : LinearProgram → ℕ → ℕ → Tableau → Outcome → Type 0
Stands M N k t Infeasible = (b : ℕ) × (bound : Number) × (s : Number) × Leaves M t b bound s × NoneEnters M t (towards t b s)
Stands M N k t Unbounded = NoneLeaves M t × (e : ℕ) × Enters M t (downhill t) e × NoLimit M t e (direction t e)
Stands M N k t (Best j) = (j ≡ k) × NoneLeaves M t × NoneEnters M t (downhill t)
Stands M N k t Spent = (k ≡ N) × Asks M t
Stands M N k t (Past j) = (j ≡ k) × (k < N) × (asked : Asks M t) × ((next : Tableau) → Makes M t asked next → ⊥)

record Ended (M : LinearProgram) (N : ℕ) (a : Outcome) : Type 0 where
  pub k : ℕ
  pub t : Tableau
  pub comes : Comes M N k t
  pub stands : Stands M N k t a

abbrev IsCrossed : LinearProgram → Type 0
IsCrossed M = (k : ℕ) × (k < variables M) × AreCrossed (lower_end M k) (upper_end M k)

record HasNoStart (M : LinearProgram) : Type 0 where
  pub in_order : NoneCrossed M
  pub past : StartFits M → ⊥

ends_by : (M : LinearProgram) (N : ℕ) (a : Outcome) → EndsAs M N a → (IsCrossed M × (a ≡ Infeasible)) ⊎ ((HasNoStart M × (a ≡ Past 0)) ⊎ Ended M N a)
ends_by M N Infeasible (inl h) = inl ((h.0, h.1, h.2), refl)
ends_by M N Infeasible (inr h) = inr (inr (record { k = h.0; t = h.1; comes = h.2; stands = (h.3, h.4, h.5, h.6, h.7) }))
ends_by M N Unbounded h = inr (inr (record { k = h.0; t = h.1; comes = h.2; stands = (h.3, h.4, h.5, h.6) }))
ends_by M N (Best j) h = inr (inr (record { k = j; t = h.0; comes = h.1.0; stands = (refl, h.1.1, h.1.2) }))
ends_by M N Spent h = inr (inr (record { k = N; t = h.0; comes = h.1; stands = (refl, h.2) }))
ends_by M N (Past j) (inl h) = inr (inl (record { in_order = h.1; past = h.2 }, ap Past h.0))
ends_by M N (Past j) (inr h) = inr (inr (record { k = j; t = h.0; comes = h.1; stands = (refl, h.2, h.3, h.4) }))

-- ---- at one tableau
other_makes : (M : LinearProgram) (t : Tableau) → t.size ≡ variables M → NoneCrossed M → (a b : Asks M t) (next : Tableau) → Makes M t a next → Makes M t b next
other_makes M t z n (inl r) (inl q) next h =
    let same = leaves_one M t r.b q.b r.bound r.s q.bound q.s z n r.leaves q.leaves in
    let enters : Enters M t (towards t r.b r.s) q.e = subst (λ j. Enters M t (towards t j r.s) q.e) (sym same.0) (subst (λ x. Enters M t (towards t q.b x) q.e) (sym same.2) q.enters) in
    subst (λ x. Turns t q.b q.e x next) same.1 (subst (λ j. Turns t q.b j r.bound next) (enters_one M t (towards t r.b r.s) r.e q.e r.enters enters) (subst (λ j. Turns t j r.e r.bound next) same.0 h))
other_makes M t z n (inl r) (inr d) next h = absurd (none_or_leaves M t r.b r.bound r.s d.repaired r.leaves)
other_makes M t z n (inr d) (inl r) next h = absurd (none_or_leaves M t r.b r.bound r.s d.repaired r.leaves)
other_makes M t z n (inr d) (inr c) next h = subst (λ j. Descends M t j next) (enters_one M t (downhill t) d.e c.e d.enters c.enters) h

nothing_after : (M : LinearProgram) (N k : ℕ) (t : Tableau) (a : Outcome) → t.size ≡ variables M → NoneCrossed M → Stands M N k t a → k < N → (asked : Asks M t) (next : Tableau) → Makes M t asked next → ⊥
nothing_after M N k t Infeasible z n h l asked next m = stuck_asks M t h.0 h.1 h.2 z n h.3 h.4 asked
nothing_after M N k t Unbounded z n h l asked next m = endless_asks M t h.1 h.0 h.2 h.3 asked
nothing_after M N k t (Best j) z n h l asked next m = best_asks M t h.1 h.2 asked
nothing_after M N k t Spent z n h l asked next m = let e : k ≡ N = h.0 in absurd (omega arith)
nothing_after M N k t (Past j) z n h l asked next m = h.3 next (other_makes M t z n asked h.2 next m)

-- what is infeasible, unbounded or best asks for nothing
abbrev IsStill : Outcome → Type 0
IsStill Infeasible = Unit {0}
IsStill Unbounded = Unit {0}
IsStill (Best j) = Unit {0}
IsStill Spent = ⊥
IsStill (Past j) = ⊥

still_asks : (M : LinearProgram) (N k : ℕ) (t : Tableau) (a : Outcome) → t.size ≡ variables M → NoneCrossed M → IsStill a → Stands M N k t a → Asks M t → ⊥
still_asks M N k t Infeasible z n i h asked = stuck_asks M t h.0 h.1 h.2 z n h.3 h.4 asked
still_asks M N k t Unbounded z n i h asked = endless_asks M t h.1 h.0 h.2 h.3 asked
still_asks M N k t (Best j) z n i h asked = best_asks M t h.1 h.2 asked
still_asks M N k t Spent z n i h asked = absurd i
still_asks M N k t (Past j) z n i h asked = absurd i

stands_one : (M : LinearProgram) (N k : ℕ) (t : Tableau) (a b : Outcome) → t.size ≡ variables M → NoneCrossed M → Stands M N k t a → Stands M N k t b → a ≡ b
stands_one M N k t Infeasible Infeasible z n h g = refl
stands_one M N k t Infeasible Unbounded z n h g = absurd (none_or_leaves M t h.0 h.1 h.2 g.0 h.3)
stands_one M N k t Infeasible (Best j) z n h g = absurd (none_or_leaves M t h.0 h.1 h.2 g.1 h.3)
stands_one M N k t Infeasible Spent z n h g = absurd (still_asks M N k t Infeasible z n tt h g.1)
stands_one M N k t Infeasible (Past j) z n h g = absurd (still_asks M N k t Infeasible z n tt h g.2)
stands_one M N k t Unbounded Infeasible z n h g = absurd (none_or_leaves M t g.0 g.1 g.2 h.0 g.3)
stands_one M N k t Unbounded Unbounded z n h g = refl
stands_one M N k t Unbounded (Best j) z n h g = absurd (g.2 h.1 h.2.within h.2.other h.2.moves)
stands_one M N k t Unbounded Spent z n h g = absurd (still_asks M N k t Unbounded z n tt h g.1)
stands_one M N k t Unbounded (Past j) z n h g = absurd (still_asks M N k t Unbounded z n tt h g.2)
stands_one M N k t (Best i) Infeasible z n h g = absurd (none_or_leaves M t g.0 g.1 g.2 h.1 g.3)
stands_one M N k t (Best i) Unbounded z n h g = absurd (h.2 g.1 g.2.within g.2.other g.2.moves)
stands_one M N k t (Best i) (Best j) z n h g = ap Best (h.0 ∙ sym g.0)
stands_one M N k t (Best i) Spent z n h g = absurd (still_asks M N k t (Best i) z n tt h g.1)
stands_one M N k t (Best i) (Past j) z n h g = absurd (still_asks M N k t (Best i) z n tt h g.2)
stands_one M N k t Spent Infeasible z n h g = absurd (still_asks M N k t Infeasible z n tt g h.1)
stands_one M N k t Spent Unbounded z n h g = absurd (still_asks M N k t Unbounded z n tt g h.1)
stands_one M N k t Spent (Best j) z n h g = absurd (still_asks M N k t (Best j) z n tt g h.1)
stands_one M N k t Spent Spent z n h g = refl
stands_one M N k t Spent (Past j) z n h g = let e : k ≡ N = h.0 in let l : k < N = g.1 in absurd (omega arith)
stands_one M N k t (Past i) Infeasible z n h g = absurd (still_asks M N k t Infeasible z n tt g h.2)
stands_one M N k t (Past i) Unbounded z n h g = absurd (still_asks M N k t Unbounded z n tt g h.2)
stands_one M N k t (Past i) (Best j) z n h g = absurd (still_asks M N k t (Best j) z n tt g h.2)
stands_one M N k t (Past i) Spent z n h g = let e : k ≡ N = g.0 in let l : k < N = h.1 in absurd (omega arith)
stands_one M N k t (Past i) (Past j) z n h g = ap Past (h.0 ∙ sym g.0)

-- ---- along one run
-- the step that a longer run made there
step_at : (M : LinearProgram) (k m : ℕ) (u : Tableau) → k < m → Reaches M m u → (t : Tableau) × Reaches M k t × (asked : Asks M t) × (next : Tableau) × Makes M t asked next
step_at M k zero u l r = absurd (omega arith)
step_at M k (suc m) u l r = by (last l) (λ h. step_at M k m r.0 h r.1)
  where
    last : k < suc m → (k < m) ⊎ (k ≡ m)
    last l = grind arith

    by : (k < m) ⊎ (k ≡ m) → (k < m → (t : Tableau) × Reaches M k t × (asked : Asks M t) × (next : Tableau) × Makes M t asked next) → (t : Tableau) × Reaches M k t × (asked : Asks M t) × (next : Tableau) × Makes M t asked next
    by (inl h) before = before h
    by (inr e) before = (r.0, subst (λ i. Reaches M i r.0) (sym e) r.1, r.2, u, r.3)

sized : (M : LinearProgram) (N k : ℕ) (t : Tableau) → Comes M N k t → t.size ≡ variables M
sized M N k t c = (reached_is_tableau M k t c.reached).size

not_before : (M : LinearProgram) (N : ℕ) (a b : Outcome) (h : Ended M N a) (g : Ended M N b) → h.k < g.k → ⊥
not_before M N a b h g l =
    let s = step_at M h.k g.k g.t l g.comes.reached in
    let few : h.k < N = omega (arith, l, g.comes.few) in
    subst (λ (w : Tableau). (asked : Asks M w) (next : Tableau) → Makes M w asked next → ⊥) (reaches_one M h.comes.in_order h.k h.t s.0 h.comes.reached s.1)
    (nothing_after M N h.k h.t a (sized M N h.k h.t h.comes) h.comes.in_order h.stands few) s.2 s.3 s.4

same_count : (M : LinearProgram) (N : ℕ) (a b : Outcome) (h : Ended M N a) (g : Ended M N b) → h.k ≡ g.k
same_count M N a b h g = elim (cases_order h.k g.k) [ inl e ↦ e | inr o ↦ elim o [ inl l ↦ absurd (not_before M N a b h g l) | inr l ↦ absurd (not_before M N b a g h l) ] ]

ended_one : (M : LinearProgram) (N : ℕ) (a b : Outcome) → Ended M N a → Ended M N b → a ≡ b
ended_one M N a b h g =
    let e : h.k ≡ g.k = same_count M N a b h g in
    let t : g.t ≡ h.t = reaches_one M h.comes.in_order h.k g.t h.t (subst (λ i. Reaches M i g.t) (sym e) g.comes.reached) h.comes.reached in
    let there : Stands M N h.k h.t b = subst (λ (w : Tableau). Stands M N h.k w b) t (subst (λ i. Stands M N i g.t b) (sym e) g.stands) in
    stands_one M N h.k h.t a b (sized M N h.k h.t h.comes) h.comes.in_order h.stands there

pub ends_one : (M : LinearProgram) (N : ℕ) (a b : Outcome) → EndsAs M N a → EndsAs M N b → a ≡ b
ends_one M N a b h g = by (ends_by M N a h) (ends_by M N b g)
  where
    by : (IsCrossed M × (a ≡ Infeasible)) ⊎ ((HasNoStart M × (a ≡ Past 0)) ⊎ Ended M N a) → (IsCrossed M × (b ≡ Infeasible)) ⊎ ((HasNoStart M × (b ≡ Past 0)) ⊎ Ended M N b) → a ≡ b
    by (inl c) (inl d) = c.1 ∙ sym d.1
    by (inl c) (inr (inl d)) = absurd (d.0.in_order c.0.0 c.0.1 c.0.2)
    by (inl c) (inr (inr d)) = absurd (d.comes.in_order c.0.0 c.0.1 c.0.2)
    by (inr (inl c)) (inl d) = absurd (c.0.in_order d.0.0 d.0.1 d.0.2)
    by (inr (inl c)) (inr (inl d)) = c.1 ∙ sym d.1
    by (inr (inl c)) (inr (inr d)) = absurd (c.0.past d.comes.room)
    by (inr (inr c)) (inl d) = absurd (c.comes.in_order d.0.0 d.0.1 d.0.2)
    by (inr (inr c)) (inr (inl d)) = absurd (d.0.past c.comes.room)
    by (inr (inr c)) (inr (inr d)) = ended_one M N a b c d

pub best_one : (M : LinearProgram) (N k : ℕ) (t u : Tableau) → EndsBest M N k t → EndsBest M N k u → t ≡ u
best_one M N k t u h g = reaches_one M h.0.in_order k t u h.0.reached g.0.reached
