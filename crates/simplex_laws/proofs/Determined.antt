-- A run has one course.
use Rattle.std.proofs.Common.{◌≡◌, ◌≢◌, ℕ, zero, suc, ◌<◌, ◌≤◌, sym, refl, ap, ◌∙◌, arith, ◌⊎◌, inl, inr, subst, Option, Some}
use Rattle.std.proofs.lemmas.Bool.{cases_order}
use Rattle.fractions.specs.Number.{Number, ◌*ℚ◌}
use Rattle.fractions.specs.Order.{◌<ℚ◌, <ℚ-≤ℚ, <ℚ-not}
use Rattle.fractions.specs.Ends.{AtLeast, AtMost, Between}
use Rattle.fractions.specs.Signs.{<ℚ_trans}
use Rattle.lp_model.specs.LinearProgram.{LinearProgram}
use Rattle.lp_theory.specs.Crossed.{AreCrossed}
use Rattle.lp_theory.proofs.Pairs.{not_below}
use Rattle.tableau_laws.specs.Variables.{variables, lower_end, upper_end}
use Rattle.tableau_laws.specs.Tableaus.{Tableau, pivoted, shifted}
use Rattle.simplex_laws.specs.Choices.{IsPast, Leaves, NoneLeaves, Enters, NoneEnters, towards, downhill, direction, end_ahead, NoLimit, Stops}
use Rattle.simplex_laws.specs.Runs.{Asks, Makes, Turns, Crosses, Descends, Reaches, NoneCrossed}
use Rattle.simplex_laws.proofs.Steps.{reached_is_tableau}

pub some_same : {a b : Number} {o : Option Number} → o ≡ Some a → o ≡ Some b → a ≡ b
some_same {a} {b} {o} p q = inj (sym p ∙ q)
  where
    inj : Some a ≡ Some b → a ≡ b
    inj e = cc

past_out : (l u : Option Number) (x bound s : Number) → IsPast l u x bound s → Between l u x → ⊥
past_out l u x bound s (inl h) b = <ℚ-not h.1 (subst (λ o. AtLeast o x) h.0 b.low)
past_out l u x bound s (inr h) b = <ℚ-not h.1 (subst (λ o. AtMost o x) h.0 b.high)

past_crossed : (l u : Option Number) (x p q : Number) → l ≡ Some p → x <ℚ p → u ≡ Some q → q <ℚ x → AreCrossed l u
past_crossed l u x p q el h eu k = subst (λ o. AreCrossed o u) (sym el) (subst (λ o. AreCrossed (Some p) o) (sym eu) (<ℚ_trans k h))

past_one : (l u : Option Number) (x p s q r : Number) → (AreCrossed l u → ⊥) → IsPast l u x p s → IsPast l u x q r → (p ≡ q) × (s ≡ r)
past_one l u x p s q r n (inl h) (inl k) = (some_same h.0 k.0, h.2 ∙ sym k.2)
past_one l u x p s q r n (inl h) (inr k) = absurd (n (past_crossed l u x p q h.0 h.1 k.0 k.1))
past_one l u x p s q r n (inr h) (inl k) = absurd (n (past_crossed l u x q p k.0 k.1 h.0 h.1))
past_one l u x p s q r n (inr h) (inr k) = (some_same h.0 k.0, h.2 ∙ sym k.2)

least_one : (b c : ℕ) → (b < c → ⊥) → (c < b → ⊥) → b ≡ c
least_one b c n m = elim (cases_order b c) [ inl e ↦ e | inr o ↦ elim o [ inl l ↦ absurd (n l) | inr l ↦ absurd (m l) ] ]

pub leaves_one : (M : LinearProgram) (t : Tableau) (b c : ℕ) (p s q r : Number) → t.size ≡ variables M → NoneCrossed M → Leaves M t b p s → Leaves M t c q r → (b ≡ c) × (p ≡ q) × (s ≡ r)
leaves_one M t b c p s q r z n h k = (e, rest.0, rest.1)
  where
    e : b ≡ c
    e = least_one b c (λ l. past_out (lower_end M b) (upper_end M b) (t.values b) p s h.past (k.least b l h.basic)) (λ l. past_out (lower_end M c) (upper_end M c) (t.values c) q r k.past (h.least c l k.basic))

    rest : (p ≡ q) × (s ≡ r)
    rest = past_one (lower_end M b) (upper_end M b) (t.values b) p s q r (n b (subst (λ m. b < m) z h.within)) h.past (subst (λ j. IsPast (lower_end M j) (upper_end M j) (t.values j) q r) (sym e) k.past)

pub none_or_leaves : (M : LinearProgram) (t : Tableau) (b : ℕ) (p s : Number) → NoneLeaves M t → Leaves M t b p s → ⊥
none_or_leaves M t b p s n h = past_out (lower_end M b) (upper_end M b) (t.values b) p s h.past (n b h.within h.basic)

pub enters_one : (M : LinearProgram) (t : Tableau) (to : ℕ → Number) (e f : ℕ) → Enters M t to e → Enters M t to f → e ≡ f
enters_one M t to e f h k = least_one e f (λ l. k.least e l h.other h.moves) (λ l. h.least f l k.other k.moves)

pub stops_one : (M : LinearProgram) (t : Tableau) (e : ℕ) (f : Number) (m k : ℕ) (s r : Number) → Stops M t e f m s → Stops M t e f k r → (m ≡ k) × (s ≡ r)
stops_one M t e f m k s r h g = by (h.least k r g.within g.limits) (g.least m s h.within h.limits)
  where
    by : (s <ℚ r) ⊎ ((s ≡ r) × (m ≤ k)) → (r <ℚ s) ⊎ ((r ≡ s) × (k ≤ m)) → (m ≡ k) × (s ≡ r)
    by (inl a) (inl b) = absurd (<ℚ-not a (<ℚ-≤ℚ b))
    by (inl a) (inr b) = absurd (not_below (subst (λ z. s <ℚ z) b.0 a))
    by (inr a) (inl b) = absurd (not_below (subst (λ z. r <ℚ z) a.0 b))
    by (inr a) (inr b) = (let p = a.1 in let q = b.1 in omega arith, a.0)

turns_one : (t : Tableau) (b c e f : ℕ) (p q : Number) (next other : Tableau) → b ≡ c → e ≡ f → p ≡ q → Turns t b e p next → Turns t c f q other → next ≡ other
turns_one t b c e f p q next other eb ee ep h k = h.is ∙ ap (λ (j : ℕ). pivoted t j e p) eb ∙ ap (λ (j : ℕ). pivoted t c j p) ee ∙ ap (λ (x : Number). pivoted t c f x) ep ∙ sym k.is

descends_one : (M : LinearProgram) (t : Tableau) (e : ℕ) (next other : Tableau) → Descends M t e next → Descends M t e other → next ≡ other
descends_one M t e next other h k = by h.next_is k.next_is
  where
    same : (h.m ≡ k.m) × (h.far ≡ k.far)
    same = stops_one M t e (direction t e) h.m k.m h.far k.far h.stops k.stops

    by : ((h.m ≡ e) × Crosses t e (direction t e *ℚ h.far) next) ⊎ ((h.m ≢ e) × (bound : Number) × (end_ahead M t e (direction t e) h.m ≡ Some bound) × Turns t h.m e bound next)
        → ((k.m ≡ e) × Crosses t e (direction t e *ℚ k.far) other) ⊎ ((k.m ≢ e) × (bound : Number) × (end_ahead M t e (direction t e) k.m ≡ Some bound) × Turns t k.m e bound other) → next ≡ other
    by (inl a) (inl b) = a.1.is ∙ ap (λ (w : Number). shifted t e (direction t e *ℚ w)) same.1 ∙ sym b.1.is
    by (inl a) (inr b) = absurd (b.0 (sym same.0 ∙ a.0))
    by (inr a) (inl b) = absurd (a.0 (same.0 ∙ b.0))
    by (inr a) (inr b) = turns_one t h.m k.m e e a.1 b.1 next other same.0 refl (some_same (ap (λ j. end_ahead M t e (direction t e) j) (sym same.0) ∙ a.2) b.2) a.3 b.3

pub makes_one : (M : LinearProgram) (t : Tableau) → t.size ≡ variables M → NoneCrossed M → (a b : Asks M t) (next other : Tableau) → Makes M t a next → Makes M t b other → next ≡ other
makes_one M t z n (inl r) (inl q) next other h k =
    let same = leaves_one M t r.b q.b r.bound r.s q.bound q.s z n r.leaves q.leaves in
    let enters : Enters M t (towards t r.b r.s) q.e = subst (λ j. Enters M t (towards t j r.s) q.e) (sym same.0) (subst (λ x. Enters M t (towards t q.b x) q.e) (sym same.2) q.enters) in
    turns_one t r.b q.b r.e q.e r.bound q.bound next other same.0 (enters_one M t (towards t r.b r.s) r.e q.e r.enters enters) same.1 h k
makes_one M t z n (inl r) (inr d) next other h k = absurd (none_or_leaves M t r.b r.bound r.s d.repaired r.leaves)
makes_one M t z n (inr d) (inl r) next other h k = absurd (none_or_leaves M t r.b r.bound r.s d.repaired r.leaves)
makes_one M t z n (inr d) (inr c) next other h k =
    descends_one M t d.e next other h (subst (λ j. Descends M t j other) (enters_one M t (downhill t) c.e d.e c.enters d.enters) k)

makes_same : (M : LinearProgram) (t u : Tableau) → t ≡ u → t.size ≡ variables M → NoneCrossed M → (a : Asks M t) (next : Tableau) → Makes M t a next → (b : Asks M u) (other : Tableau) → Makes M u b other → next ≡ other
makes_same M t u e z n a next h = subst (λ (w : Tableau). (b : Asks M w) (other : Tableau) → Makes M w b other → next ≡ other) e (λ b other k. makes_one M t z n a b next other h k)

pub reaches_one : (M : LinearProgram) → NoneCrossed M → (k : ℕ) (t u : Tableau) → Reaches M k t → Reaches M k u → t ≡ u
reaches_one M n zero t u h g = h ∙ sym g
reaches_one M n (suc k) t u h g = makes_same M h.0 g.0 (reaches_one M n k h.0 g.0 h.1 g.1) (reached_is_tableau M k h.0 h.1).size n h.2 t h.3 g.2 u g.3

-- where a run ends, the rules ask for nothing
pub stuck_asks : (M : LinearProgram) (t : Tableau) (b : ℕ) (bound s : Number) → t.size ≡ variables M → NoneCrossed M → Leaves M t b bound s → NoneEnters M t (towards t b s) → Asks M t → ⊥
stuck_asks M t b bound s z n h o (inr d) = none_or_leaves M t b bound s d.repaired h
stuck_asks M t b bound s z n h o (inl r) =
    let same = leaves_one M t r.b b r.bound r.s bound s z n r.leaves h in
    let enters : Enters M t (towards t b s) r.e = subst (λ j. Enters M t (towards t j s) r.e) same.0 (subst (λ x. Enters M t (towards t r.b x) r.e) same.2 r.enters) in
    o r.e enters.within enters.other enters.moves

pub best_asks : (M : LinearProgram) (t : Tableau) → NoneLeaves M t → NoneEnters M t (downhill t) → Asks M t → ⊥
best_asks M t n o (inl r) = none_or_leaves M t r.b r.bound r.s n r.leaves
best_asks M t n o (inr d) = o d.e d.enters.within d.enters.other d.enters.moves

pub endless_asks : (M : LinearProgram) (t : Tableau) (e : ℕ) → NoneLeaves M t → Enters M t (downhill t) e → NoLimit M t e (direction t e) → Asks M t → ⊥
endless_asks M t e n h o (inl r) = none_or_leaves M t r.b r.bound r.s n r.leaves
endless_asks M t e n h o (inr d) = d.limited (subst (λ j. NoLimit M t j (direction t j)) (enters_one M t (downhill t) e d.e h d.enters) o)
