-- Multipliers that sit at the end that their sign asks for, in the sense Min.
use Rattle.std.proofs.Common.{pos, ◌≡◌, ℕ, ◌<◌, sym, subst, ap, ◌∙◌, [], ◌∷◌, refl, inl, inr, ◌⊎◌, Option, Some, None, Bool, true, false, not, ◌&&◌, ◌||◌}
use Rattle.std.specs.Prelude.{if◌then◌else◌}
use Rattle.std.proofs.lemmas.Bool.{and_parts, or_cases}
use Rattle.fractions.specs.Ring.{ring, v, num, ◌:+◌, ◌:-◌, ◌:*◌, inv}
use Rattle.fractions.specs.Number.{Number, rational, zero_ℚ, ◌+ℚ◌, ◌*ℚ◌, neg_ℚ}
use Rattle.fractions.specs.Order.{◌≤ℚ◌, ≤ℚ_cases, ≤ℚ_antisym, ≤ℚ-by, ≤ℚ-*ℚ, ◌<ℚ◌, <ℚ-≤ℚ, <ℚ-not}
use Rattle.fractions.specs.Compare.{lt_ℚ, le_ℚ}
use Rattle.fractions.specs.Ends.{AtLeast, AtMost, Between, meet_low, meet_high, less, same_end}
use Rattle.fractions.specs.Signs.{≤ℚ-same, ≤ℚ-*ℚ_down, *ℚ_pos, *ℚ_pos_neg, *ℚ_neg}
use Rattle.fractions.proofs.EndLaws.{same_end-is}
use Rattle.lp_model.specs.declared.program.Sense.TheVariants.{Min}
use Rattle.lp_model.specs.LinearProgram.{LinearProgram, value_at, Feasible}
use Rattle.lp_model.specs.Optimality.{Continuous}
use Rattle.lp_model.specs.Senses.{Sits}
use Rattle.lp_model.specs.Reductions.{Priced, IsPriced}
use Rattle.lp_theory.specs.MetEnds.{is_from_row}
use Rattle.lp_theory.proofs.ActivityLaws.{lt_true}
use Rattle.lp_theory.proofs.Carrying.{Carries}
use Rattle.lp_theory.proofs.Pairs.{below_if_not, not_below, some_inj}
use Rattle.lp_theory.proofs.MetEndLaws.{lt_is}

-- ---- tests

-- ---- the sign of a factor of c m, where that of -(c m) is known
negative_up : (c : Number) → zero_ℚ ≤ℚ c → zero_ℚ <ℚ neg_ℚ c → ⊥
negative_up c h k = <ℚ-not k (≤ℚ-by zero_ℚ c (neg_ℚ c) zero_ℚ (ring rational (c ∷ []) (v 0 :- num (pos 0)) (num (pos 0) :- inv (v 0)) refl) h)

negative_down : (c : Number) → c ≤ℚ zero_ℚ → neg_ℚ c <ℚ zero_ℚ → ⊥
negative_down c h k = <ℚ-not k (≤ℚ-by c zero_ℚ zero_ℚ (neg_ℚ c) (ring rational (c ∷ []) (num (pos 0) :- v 0) (inv (v 0) :- num (pos 0)) refl) h)

pub pos_up : (c m : Number) → zero_ℚ ≤ℚ c → zero_ℚ <ℚ neg_ℚ (c *ℚ m) → m <ℚ zero_ℚ
pos_up c m p k = below_if_not (λ h. negative_up (c *ℚ m) (*ℚ_pos p h) k)

pub pos_down : (c m : Number) → zero_ℚ ≤ℚ c → neg_ℚ (c *ℚ m) <ℚ zero_ℚ → zero_ℚ <ℚ m
pos_down c m p k = below_if_not (λ h. negative_down (c *ℚ m) (*ℚ_pos_neg p h) k)

pub neg_up : (c m : Number) → c ≤ℚ zero_ℚ → zero_ℚ <ℚ neg_ℚ (c *ℚ m) → zero_ℚ <ℚ m
neg_up c m p k = below_if_not (λ h. negative_up (c *ℚ m) (*ℚ_neg p h) k)

pub neg_down : (c m : Number) → c ≤ℚ zero_ℚ → neg_ℚ (c *ℚ m) <ℚ zero_ℚ → m <ℚ zero_ℚ
neg_down c m p k = below_if_not (λ h. negative_down (c *ℚ m) (subst (λ q. q ≤ℚ zero_ℚ) (ring rational (c ∷ m ∷ []) (v 1 :* v 0) (v 0 :* v 1) refl) (*ℚ_pos_neg h p)) k)

-- ---- a multiplier of 0, and a range of one number
pub zero_sits : (l u : Option Number) (x m : Number) → m ≡ zero_ℚ → Sits Min l u x m
zero_sits l u x m e = ((λ h. absurd (not_below (subst (λ c. zero_ℚ <ℚ c) e h))), λ h. absurd (not_below (subst (λ c. c <ℚ zero_ℚ) e h)))

pub pinned_sits : (l u : Option Number) (r x m : Number) → l ≡ Some r → u ≡ Some r → x ≡ r → Sits Min l u x m
pinned_sits l u r x m e f g = ((λ h. e ∙ ap Some (sym g)), λ h. f ∙ ap Some (sym g))

-- a multiplier times the value at which it sits is least there
pub sits_least : (l u : Option Number) (x w m : Number) → Sits Min l u x m → Between l u w → (m *ℚ x) ≤ℚ (m *ℚ w)
sits_least l u x w m s b = elim (≤ℚ_cases m zero_ℚ) [
  | inr p ↦ ≤ℚ-*ℚ m (<ℚ-≤ℚ p) (subst (λ o. AtLeast o w) (s.0 p) b.low)
  | inl n ↦ elim (≤ℚ_cases zero_ℚ m) [
    | inr p ↦ ≤ℚ-*ℚ_down m n (subst (λ o. AtMost o w) (s.1 p) b.high)
    | inl p ↦ ≤ℚ-same (ap (λ c. c *ℚ x) (≤ℚ_antisym n p) ∙ ring rational (x ∷ w ∷ []) (num (pos 0) :* v 0) (num (pos 0) :* v 1) refl ∙ ap (λ c. c *ℚ w) (≤ℚ_antisym p n))
  ]
]

-- ---- a range that is moved
less_some : (o : Option Number) (c w : Number) → less o c ≡ Some w → o ≡ Some (w +ℚ c)
less_some None c w e = cc
less_some (Some b) c w e = ap Some (ring rational (b ∷ c ∷ []) (v 0) (v 0 :- v 1 :+ v 1) refl ∙ ap (λ a. a +ℚ c) (some_inj e))

pub less_sits : (l u : Option Number) (c w m : Number) → Sits Min (less l c) (less u c) w m → Sits Min l u (w +ℚ c) m
less_sits l u c w m s = ((λ h. less_some l c w (s.0 h)), λ h. less_some u c w (s.1 h))

-- ---- ranges that are met
meet_low_one : (p q : Option Number) (x : Number) → meet_low p q ≡ Some x → (p ≡ Some x) ⊎ (q ≡ Some x)
meet_low_one None q x e = inr e
meet_low_one (Some a) None x e = inl e
meet_low_one (Some a) (Some b) x e = (elim (le_ℚ a b) as (λ t. Some (if t then b else a) ≡ Some x → (Some a ≡ Some x) ⊎ (Some b ≡ Some x)) [ true ↦ λ e. inr e | false ↦ λ e. inl e ]) e

meet_high_one : (p q : Option Number) (x : Number) → meet_high p q ≡ Some x → (p ≡ Some x) ⊎ (q ≡ Some x)
meet_high_one None q x e = inr e
meet_high_one (Some a) None x e = inl e
meet_high_one (Some a) (Some b) x e = (elim (le_ℚ a b) as (λ t. Some (if t then a else b) ≡ Some x → (Some a ≡ Some x) ⊎ (Some b ≡ Some x)) [ true ↦ λ e. inl e | false ↦ λ e. inr e ]) e

not_true : {b : Bool} → not b ≡ true → b ≡ true → ⊥
not_true {b} e f = let g : not true ≡ true = subst (λ t. not t ≡ true) f e in cc

-- the one that is not the old end
new_end : (p q : Option Number) (x : Number) → (p ≡ Some x) ⊎ (q ≡ Some x) → not (same_end p (Some x)) ≡ true → q ≡ Some x
new_end p q x (inl e) n = absurd (not_true n ((same_end-is p (Some x)).1 e))
new_end p q x (inr e) n = e

and_false : (a b : Bool) → (a && not b) ≡ false → a ≡ true → b ≡ true
and_false true true e f = refl
and_false true false e f = cc
and_false false b e f = cc

or_false : (a b : Bool) → (a || b) ≡ false → (a ≡ false) × (b ≡ false)
or_false true b e = cc
or_false false b e = (refl, e)

-- the range from l to u, met with that from p to q: a multiplier that is off the ends of the first sits at one of the second
pub second_sits : (l u p q : Option Number) (x m : Number) → Sits Min (meet_low l p) (meet_high u q) x m → is_from_row l u x m ≡ true → Sits Min p q x m
second_sits l u p q x m s e = elim (or_cases (lt_ℚ zero_ℚ m && not (same_end l (Some x))) (lt_ℚ m zero_ℚ && not (same_end u (Some x))) e) [
  | inl f ↦ let b = and_parts (lt_ℚ zero_ℚ m) (not (same_end l (Some x))) f in let h = lt_true zero_ℚ m b.0 in
      ((λ k. new_end l p x (meet_low_one l p x (s.0 h)) b.1), λ k. absurd (<ℚ-not k (<ℚ-≤ℚ h)))
  | inr f ↦ let b = and_parts (lt_ℚ m zero_ℚ) (not (same_end u (Some x))) f in let h = lt_true m zero_ℚ b.0 in
      ((λ k. absurd (<ℚ-not k (<ℚ-≤ℚ h))), λ k. new_end u q x (meet_high_one u q x (s.1 h)) b.1)
]

-- and one that is not off them sits at one of the first
pub first_sits : (l u : Option Number) (x m : Number) → is_from_row l u x m ≡ false → Sits Min l u x m
first_sits l u x m e = let f = or_false (lt_ℚ zero_ℚ m && not (same_end l (Some x))) (lt_ℚ m zero_ℚ && not (same_end u (Some x))) e in
    ((λ h. (same_end-is l (Some x)).0 (and_false (lt_ℚ zero_ℚ m) (same_end l (Some x)) f.0 (lt_is zero_ℚ m h))), λ h. (same_end-is u (Some x)).0 (and_false (lt_ℚ m zero_ℚ) (same_end u (Some x)) f.1 (lt_is m zero_ℚ h)))

-- ---- the conditions of a whole program
pub carried : (M : LinearProgram) (p : Priced) → Continuous M → Feasible M p.x → IsPriced M p
    → ((i : ℕ) → i < M.rows → Sits Min (M.lower_side i) (M.upper_side i) (value_at M i p.x) (p.y i))
    → ((j : ℕ) → j < M.columns → Sits Min (M.lower_bound j) (M.upper_bound j) (p.x j) (p.z j)) → Carries M p
carried M p c f i rows columns = record {
  continuous = c;
  feasible = f;
  left = i;
  pays_low = λ i l. (rows i l).0;
  pays_high = λ i l. (rows i l).1;
  at_low = λ j l. (columns j l).0;
  at_high = λ j l. (columns j l).1;
}

pub row_sits : (M : LinearProgram) (p : Priced) → Carries M p → (i : ℕ) → i < M.rows → Sits Min (M.lower_side i) (M.upper_side i) (value_at M i p.x) (p.y i)
row_sits M p h i l = (h.pays_low i l, h.pays_high i l)

pub column_sits : (M : LinearProgram) (p : Priced) → Carries M p → (j : ℕ) → j < M.columns → Sits Min (M.lower_bound j) (M.upper_bound j) (p.x j) (p.z j)
column_sits M p h j l = (h.at_low j l, h.at_high j l)
