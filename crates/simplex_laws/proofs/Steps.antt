-- Each step of a run keeps a tableau of the program.
use Rattle.std.proofs.Common.{◌≡◌, ◌≢◌, ℕ, zero, suc, ◌<◌, pos, sym, refl, ap, ap₂, ◌∙◌, [], ◌∷◌, ◌⊎◌, inl, inr, subst, Bool, true, false, true≢false, Option, Some, None}
use Rattle.std.specs.Prelude.{if◌then◌else◌}
use Rattle.std.proofs.lemmas.Bool.{eq-eqb, ne_eqb}
use Rattle.fractions.specs.Ring.{ring, v, num, ◌:+◌, ◌:-◌, ◌:*◌, inv}
use Rattle.fractions.specs.Number.{Number, rational, zero_ℚ, one_ℚ, ◌+ℚ◌, ◌-ℚ◌, ◌*ℚ◌, neg_ℚ}
use Rattle.fractions.specs.Order.{◌<ℚ◌, <ℚ-≤ℚ, <ℚ-not}
use Rattle.fractions.specs.Linear.{linear, fact}
use Rattle.fractions.specs.Compare.{lt_ℚ}
use Rattle.fractions.specs.Ends.{less, over}
use Rattle.fractions.specs.Comparisons.{lt_ℚ-is}
use Rattle.lp_model.specs.LinearProgram.{LinearProgram}
use Rattle.lp_theory.proofs.Pairs.{below_if_not, not_below}
use Rattle.tableau_laws.specs.Variables.{lower_end, upper_end, Rests}
use Rattle.tableau_laws.specs.Tableaus.{Tableau, pivoted, shifted, CanPivot, CanShift}
use Rattle.tableau_laws.specs.Keeping.{IsTableau}
use Rattle.simplex_laws.specs.Choices.{CanRise, CanFall, CanMove, IsPast, Enters, downhill, direction, end_ahead, own_width, limit, NoLimit}
use Rattle.simplex_laws.specs.Runs.{Repair, Descent, Asks, Makes, Descends, Reaches}
use Rattle.tableau_laws.proofs.Keeps.{rests_at_lower, rests_at_upper, pivot_is_tableau, shift_is_tableau, times_zero, zero_times}
use Rattle.tableau_laws.proofs.Starts.{start_is_tableau}
use Rattle.simplex_laws.proofs.Results.{IsFree}

-- ---- phase 1
-- what moves is not 0
moves_not_zero : (M : LinearProgram) (t : Tableau) (e : ℕ) (s : Number) → CanMove M t e s → s ≢ zero_ℚ
moves_not_zero M t e s (inl h) q = not_below (subst (λ z. zero_ℚ <ℚ z) q h.0)
moves_not_zero M t e s (inr h) q = not_below (subst (λ z. z <ℚ zero_ℚ) q h.0)

past_rests : (l u : Option Number) (x bound s : Number) → IsPast l u x bound s → Rests l u bound
past_rests l u x bound s (inl h) = rests_at_lower l u bound h.0
past_rests l u x bound s (inr h) = rests_at_upper l u bound h.0

pub repair_pivots : (M : LinearProgram) (t : Tableau) → (r : Repair M t) → CanPivot t r.b r.e
repair_pivots M t r = record {
  b_within = r.leaves.within;
  e_within = r.enters.within;
  b_basic = r.leaves.basic;
  e_other = r.enters.other;
  not_zero = λ q. moves_not_zero M t r.e (r.s *ℚ t.table r.b r.e) r.enters.moves (times_zero r.s (t.table r.b r.e) q);
}

pub repair_rests : (M : LinearProgram) (t : Tableau) → (r : Repair M t) → Rests (lower_end M r.b) (upper_end M r.b) r.bound
repair_rests M t r = past_rests (lower_end M r.b) (upper_end M r.b) (t.values r.b) r.bound r.s r.leaves.past

-- ---- phase 2
pub can_enter : (M : LinearProgram) (t : Tableau) (to : ℕ → Number) (e : ℕ) → Enters M t to e → CanShift t e
can_enter M t to e h = record { e_within = h.within; e_other = h.other }

-- the direction is one of two, and lowers the cost
pub record Goes (M : LinearProgram) (t : Tableau) (e : ℕ) (f : Number) : Type 0 where
  pub lowers : (t.prices e *ℚ f) <ℚ zero_ℚ
  pub way : ((f ≡ one_ℚ) × CanRise (upper_end M e) (t.values e)) ⊎ ((f ≡ neg_ℚ one_ℚ) × CanFall (lower_end M e) (t.values e))

turned_below : (d : Number) → d <ℚ zero_ℚ → neg_ℚ d <ℚ zero_ℚ → ⊥
turned_below d h k = <ℚ-not h (linear (d ∷ []) (fact 1 (inv (v 0)) (num (pos 0)) ∷ []) 0 (num (pos 0)) (v 0) (<ℚ-≤ℚ k, tt) refl)

pub goes : (M : LinearProgram) (t : Tableau) (e : ℕ) → CanMove M t e (neg_ℚ (t.prices e)) → Goes M t e (direction t e)
goes M t e h = by (lt_ℚ (t.prices e) zero_ℚ) refl h
  where
    by : (q : Bool) → lt_ℚ (t.prices e) zero_ℚ ≡ q → CanMove M t e (neg_ℚ (t.prices e)) → Goes M t e (if q then one_ℚ else neg_ℚ one_ℚ)
    by true q h = record {
      lowers = subst (λ z. z <ℚ zero_ℚ) (ring rational (t.prices e ∷ []) (v 0) (v 0 :* num (pos 1)) refl) ((lt_ℚ-is (t.prices e) zero_ℚ).0 q);
      way = elim h [ inl k ↦ inl (refl, k.1) | inr k ↦ absurd (turned_below (t.prices e) ((lt_ℚ-is (t.prices e) zero_ℚ).0 q) k.0) ];
    }
    by false q (inl k) = absurd (true≢false (sym ((lt_ℚ-is (t.prices e) zero_ℚ).1 (below_if_not (λ z. <ℚ-not k.0 (linear (t.prices e ∷ []) (fact 1 (num (pos 0)) (v 0) ∷ []) 0 (inv (v 0)) (num (pos 0)) (z, tt) refl)))) ∙ q))
    by false q (inr k) = record {
      lowers = subst (λ z. z <ℚ zero_ℚ) (ring rational (t.prices e ∷ []) (inv (v 0)) (v 0 :* inv (num (pos 1))) refl) k.0;
      way = inr (refl, k.1);
    }

-- e goes from one end to the other
own_end : (l u : Option Number) (x f far : Number) → ((f ≡ one_ℚ) × CanRise u x) ⊎ ((f ≡ neg_ℚ one_ℚ) × CanFall l x) → Rests l u x → own_width l u ≡ Some far → Rests l u (x +ℚ f *ℚ far)
own_end None u x f far h r e = cc
own_end (Some l) None x f far h r e = cc
own_end (Some l) (Some u) x f far (inl h) (inl r) e = inr (
    ring rational (l ∷ u ∷ []) (v 1) (v 0 :+ num (pos 1) :* (v 1 :- v 0)) refl
    ∙ ap₂ (λ y g. y +ℚ g *ℚ (u -ℚ l)) r (sym h.0) ∙ ap (λ z. x +ℚ f *ℚ z) (some_is (u -ℚ l) far e))
  where
    some_is : (a b : Number) → Some a ≡ Some b → a ≡ b
    some_is a b e = cc
own_end (Some l) (Some u) x f far (inl h) (inr r) e = absurd (not_below (subst (λ z. z <ℚ u) (sym r) h.1))
own_end (Some l) (Some u) x f far (inr h) (inl r) e = absurd (not_below (subst (λ z. l <ℚ z) (sym r) h.1))
own_end (Some l) (Some u) x f far (inr h) (inr r) e = inl (
    ring rational (l ∷ u ∷ []) (v 0) (v 1 :+ inv (num (pos 1)) :* (v 1 :- v 0)) refl
    ∙ ap₂ (λ y g. y +ℚ g *ℚ (u -ℚ l)) r (sym h.0) ∙ ap (λ z. x +ℚ f *ℚ z) (some_is (u -ℚ l) far e))
  where
    some_is : (a b : Number) → Some a ≡ Some b → a ≡ b
    some_is a b e = cc

-- the end ahead is an end, and only where the row has e
pub ahead_rests : (a : Number) (l u : Option Number) (bound : Number) → (if lt_ℚ zero_ℚ a then u else if lt_ℚ a zero_ℚ then l else None) ≡ Some bound → Rests l u bound × (a ≢ zero_ℚ)
ahead_rests a l u bound = by (lt_ℚ zero_ℚ a) (lt_ℚ a zero_ℚ) refl refl
  where
    by : (p q : Bool) → lt_ℚ zero_ℚ a ≡ p → lt_ℚ a zero_ℚ ≡ q → (if p then u else if q then l else None) ≡ Some bound → Rests l u bound × (a ≢ zero_ℚ)
    by true q ep eq e = (rests_at_upper l u bound e, λ z. not_below (subst (λ y. zero_ℚ <ℚ y) z ((lt_ℚ-is zero_ℚ a).0 ep)))
    by false true ep eq e = (rests_at_lower l u bound e, λ z. not_below (subst (λ y. y <ℚ zero_ℚ) z ((lt_ℚ-is a zero_ℚ).0 eq)))
    by false false ep eq e = cc

pub descent_pivots : (M : LinearProgram) (t : Tableau) (e m : ℕ) (f : Number) → IsTableau M t → CanShift t e → m < t.size → t.table m e *ℚ f ≢ zero_ℚ → CanPivot t m e
descent_pivots M t e m f i h l n = record {
  b_within = l;
  e_within = h.e_within;
  b_basic = by (t.basic m) refl;
  e_other = h.e_other;
  not_zero = λ q. n (zero_times (t.table m e) f q);
}
  where
    by : (q : Bool) → t.basic m ≡ q → t.basic m ≡ true
    by true q = q
    by false q = absurd (n (zero_times (t.table m e) f (i.split.rows m e l h.e_within q)))

own_limit : (M : LinearProgram) (t : Tableau) (e : ℕ) (f : Number) → limit M t e f e ≡ own_width (lower_end M e) (upper_end M e)
own_limit M t e f = ap (λ (q : Bool). if q then own_width (lower_end M e) (upper_end M e) else over (less (end_ahead M t e f e) (t.values e)) (t.table e e *ℚ f)) (eq-eqb e e refl)

other_limit : (M : LinearProgram) (t : Tableau) (e m : ℕ) (f : Number) → m ≢ e → limit M t e f m ≡ over (less (end_ahead M t e f m) (t.values m)) (t.table m e *ℚ f)
other_limit M t e m f n = ap (λ (q : Bool). if q then own_width (lower_end M e) (upper_end M e) else over (less (end_ahead M t e f m) (t.values m)) (t.table m e *ℚ f)) (ne_eqb m e n)

descent_own : (M : LinearProgram) (t : Tableau) → IsTableau M t → (d : Descent M t) (m : ℕ) (far : Number) → m ≡ d.e → limit M t d.e (direction t d.e) m ≡ Some far → IsTableau M (shifted t d.e (direction t d.e *ℚ far))
descent_own M t i d m far q e = shift_is_tableau M t d.e (direction t d.e *ℚ far) i (can_enter M t (downhill t) d.e d.enters)
    (own_end (lower_end M d.e) (upper_end M d.e) (t.values d.e) (direction t d.e) far (goes M t d.e d.enters.moves).way (i.rests d.e d.enters.within d.enters.other)
    (sym (own_limit M t d.e (direction t d.e)) ∙ ap (λ k. limit M t d.e (direction t d.e) k) (sym q) ∙ e))

descent_other : (M : LinearProgram) (t : Tableau) → IsTableau M t → (d : Descent M t) (m : ℕ) (bound : Number) → m < t.size → end_ahead M t d.e (direction t d.e) m ≡ Some bound → IsTableau M (pivoted t m d.e bound)
descent_other M t i d m bound l e =
    let a = ahead_rests (t.table m d.e *ℚ direction t d.e) (lower_end M m) (upper_end M m) bound e in
    pivot_is_tableau M t m d.e bound i (descent_pivots M t d.e m (direction t d.e) i (can_enter M t (downhill t) d.e d.enters) l a.1) a.0

pub descent_is_tableau : (M : LinearProgram) (t : Tableau) → IsTableau M t → (d : Descent M t) (next : Tableau) → Descends M t d.e next → IsTableau M next
descent_is_tableau M t i d next h = elim h.next_is [
  | inl own ↦ subst (λ s. IsTableau M s) (sym own.1.is) (descent_own M t i d h.m h.far own.0 h.stops.limits)
  | inr other ↦ subst (λ s. IsTableau M s) (sym other.3.is) (descent_other M t i d h.m other.1 h.stops.within other.2)
]

pub makes_is_tableau : (M : LinearProgram) (t : Tableau) → IsTableau M t → (a : Asks M t) (next : Tableau) → Makes M t a next → IsTableau M next
makes_is_tableau M t i (inl r) next h = subst (λ s. IsTableau M s) (sym h.is) (pivot_is_tableau M t r.b r.e r.bound i (repair_pivots M t r) (repair_rests M t r))
makes_is_tableau M t i (inr d) next h = descent_is_tableau M t i d next h

pub reached_is_tableau : (M : LinearProgram) (k : ℕ) (t : Tableau) → Reaches M k t → IsTableau M t
reached_is_tableau M zero t h = subst (λ s. IsTableau M s) (sym h) (start_is_tableau M)
reached_is_tableau M (suc k) t h = makes_is_tableau M h.0 (reached_is_tableau M k h.0 h.1) h.2 t h.3

-- ---- nothing limits
over_none : (o : Option Number) (a b : Number) → over (less o b) a ≡ None → o ≡ None
over_none None a b e = refl
over_none (Some x) a b e = cc

ahead_none : (a : Number) (l u : Option Number) → (if lt_ℚ zero_ℚ a then u else if lt_ℚ a zero_ℚ then l else None) ≡ None → (zero_ℚ <ℚ a → u ≡ None) × (a <ℚ zero_ℚ → l ≡ None)
ahead_none a l u = by (lt_ℚ zero_ℚ a) (lt_ℚ a zero_ℚ) refl refl
  where
    by : (p q : Bool) → lt_ℚ zero_ℚ a ≡ p → lt_ℚ a zero_ℚ ≡ q → (if p then u else if q then l else None) ≡ None → (zero_ℚ <ℚ a → u ≡ None) × (a <ℚ zero_ℚ → l ≡ None)
    by true q ep eq e = ((λ h. e), λ h. absurd (<ℚ-not h (<ℚ-≤ℚ ((lt_ℚ-is zero_ℚ a).0 ep))))
    by false true ep eq e = ((λ h. absurd (true≢false (sym ((lt_ℚ-is zero_ℚ a).1 h) ∙ ep))), λ h. e)
    by false false ep eq e = ((λ h. absurd (true≢false (sym ((lt_ℚ-is zero_ℚ a).1 h) ∙ ep))), λ h. absurd (true≢false (sym ((lt_ℚ-is a zero_ℚ).1 h) ∙ eq)))

one_pos : (f : Number) → f ≡ one_ℚ → f <ℚ zero_ℚ → ⊥
one_pos f e h = <ℚ-not (subst (λ z. z <ℚ zero_ℚ) e h) (linear [] [] 1 (num (pos 0)) (num (pos 1)) tt refl)

one_neg : (f : Number) → f ≡ neg_ℚ one_ℚ → zero_ℚ <ℚ f → ⊥
one_neg f e h = <ℚ-not (subst (λ z. zero_ℚ <ℚ z) e h) (linear [] [] 1 (inv (num (pos 1))) (num (pos 0)) tt refl)

-- a variable that has no width and is not at its end has none there
own_none : (l u : Option Number) (x f : Number) → ((f ≡ one_ℚ) × CanRise u x) ⊎ ((f ≡ neg_ℚ one_ℚ) × CanFall l x) → Rests l u x → own_width l u ≡ None → (zero_ℚ <ℚ f → u ≡ None) × (f <ℚ zero_ℚ → l ≡ None)
own_none l None x f (inl h) r e = ((λ k. refl), λ k. absurd (one_pos f h.0 k))
own_none None (Some u) x f (inl h) r e = absurd (not_below (subst (λ z. z <ℚ u) (sym r) h.1))
own_none (Some l) (Some u) x f (inl h) r e = cc
own_none None u x f (inr h) r e = ((λ k. absurd (one_neg f h.0 k)), λ k. refl)
own_none (Some l) None x f (inr h) r e = absurd (not_below (subst (λ z. l <ℚ z) (sym r) h.1))
own_none (Some l) (Some u) x f (inr h) r e = cc

pub free : (M : LinearProgram) (t : Tableau) (e : ℕ) → IsTableau M t → Enters M t (downhill t) e → NoLimit M t e (direction t e) → IsFree M t e (direction t e)
free M t e i h n = record {
  ahead = λ m l q. let o : m ≢ e = λ r. true≢false (sym q ∙ ap t.basic r ∙ h.other) in
      ahead_none (t.table m e *ℚ direction t e) (lower_end M m) (upper_end M m)
      (over_none (end_ahead M t e (direction t e) m) (t.table m e *ℚ direction t e) (t.values m) (sym (other_limit M t e m (direction t e) o) ∙ n m l));
  own = own_none (lower_end M e) (upper_end M e) (t.values e) (direction t e) (goes M t e h.moves).way (i.rests e h.within h.other) (sym (own_limit M t e (direction t e)) ∙ n e h.within);
}
