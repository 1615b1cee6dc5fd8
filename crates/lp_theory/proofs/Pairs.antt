-- The reductions keep optimality conditions.
use Rattle.std.proofs.Common.{◌≡◌, ◌≢◌, ℕ, zero, suc, ◌<◌, pos, sym, refl, ap, ap₂, ◌∙◌, arith, [], ◌∷◌, inl, inr, subst, Option, Some, None, Bool, true, false}
use Rattle.std.specs.Prelude.{if◌then◌else◌}
use Rattle.std.proofs.lemmas.Bool.{cases_eq}
use Rattle.fractions.specs.Ring.{ring, v, num, ◌:+◌, ◌:-◌, ◌:*◌}
use Rattle.fractions.specs.Order.{◌≤ℚ◌, ◌<ℚ◌, ≤ℚ_refl, ≤ℚ_antisym, ≤ℚ_cases, <ℚ-≤ℚ, <ℚ-not}
use Rattle.fractions.specs.Linear.{linear, fact}
use Rattle.fractions.specs.Number.{Number, rational, ◌+ℚ◌, ◌-ℚ◌, ◌*ℚ◌, zero_ℚ}
use Rattle.fractions.specs.Division.{◌/ℚ◌}
use Rattle.fractions.specs.Total.{total, put}
use Rattle.lp_model.specs.LinearProgram.{LinearProgram, value_at, Feasible}
use Rattle.lp_model.specs.Vectors.{Vector}
use Rattle.fractions.specs.Ends.{AtLeast, AtMost, plus, scaled}
use Rattle.lp_model.specs.Reductions.{Priced}
use Rattle.lp_theory.proofs.Carrying.{Carries, PairsReduce}
use Rattle.lp_model.specs.Optimality.{reduced_cost}
use Rattle.fractions.specs.Compare.{lt_ℚ}
use Rattle.lp_theory.specs.Activities.{least_term, total_ends}
use Rattle.lp_model.specs.Edits.{without_row}
use Rattle.fractions.proofs.Totals.{put-same, put-other, at_or_off, total_same, total-put_factor}
use Rattle.fractions.specs.Signs.{times-over, <ℚ-≢, <ℚ-≢'}
use Rattle.lp_theory.proofs.ActivityLaws.{lt_true, lt_false, total_ends-low, total_ends-high}
use Rattle.lp_theory.proofs.Steps.{value-without_row}

-- a dual of 0 for row i
abbrev pub undo_row : ℕ → Priced → Priced
undo_row i s = record s { y = put s.y i zero_ℚ }

-- d more for row i, which has the coefficients a
abbrev pub moved : ℕ → (ℕ → Number) → Number → Priced → Priced
moved i a d s = record s { y = put s.y i (s.y i +ℚ d); z = λ k. s.z k -ℚ a k *ℚ d }

pub below_if_not : {p q : Number} → (q ≤ℚ p → ⊥) → p <ℚ q
below_if_not {p} {q} f = elim (≤ℚ_cases q p) [ inl h ↦ absurd (f h) | inr h ↦ h ]

pub not_below : {p : Number} → p <ℚ p → ⊥
not_below {p} h = <ℚ-not h (≤ℚ_refl p)

-- ---- a row deleted
reduced-without_row : (M : LinearProgram) (i : ℕ) (y : Vector) (j : ℕ) → reduced_cost M (put y i zero_ℚ) j ≡ reduced_cost (without_row M i) y j
reduced-without_row M i y j = ap (λ t. M.costs j -ℚ t) (total_same M.rows (λ p. put y i zero_ℚ p *ℚ M.coefficient p j) (λ p. y p *ℚ put M.coefficient i (λ k. zero_ℚ) p j)
    (λ p l. at_or_off (λ p. put y i zero_ℚ p *ℚ M.coefficient p j ≡ y p *ℚ put M.coefficient i (λ k. zero_ℚ) p j) i
    (ap (λ a. a *ℚ M.coefficient i j) (put-same y i zero_ℚ)
    ∙ ring rational (M.coefficient i j ∷ y i ∷ []) (num (pos 0) :* v 0) (v 1 :* num (pos 0)) refl
    ∙ ap (λ (r : ℕ → Number). y i *ℚ r j) (sym (put-same M.coefficient i (λ k. zero_ℚ))))
    (λ p n. ap₂ (λ a (r : ℕ → Number). a *ℚ r j) (put-other y i zero_ℚ p n) (sym (put-other M.coefficient i (λ k. zero_ℚ) p n))) p))

pub row_pairs : (M : LinearProgram) (i : ℕ) → ((x : Vector) → Feasible (without_row M i) x → Feasible M x) → PairsReduce M (without_row M i) (undo_row i)
row_pairs M i to = record {
  carries = λ s h. record {
    continuous = h.continuous;
    feasible = to s.x h.feasible;
    left = λ j l. h.left j l ∙ sym (reduced-without_row M i s.y j);
    pays_low = at_or_off (λ p. p < M.rows → zero_ℚ <ℚ put s.y i zero_ℚ p → M.lower_side p ≡ Some (value_at M p s.x)) i
        (λ l k. absurd (not_below (subst (λ a. zero_ℚ <ℚ a) (put-same s.y i zero_ℚ) k)))
        (λ p n l k. sym (put-other M.lower_side i None p n) ∙ h.pays_low p l (subst (λ a. zero_ℚ <ℚ a) (put-other s.y i zero_ℚ p n) k) ∙ ap Some (value-without_row M i p s.x n));
    pays_high = at_or_off (λ p. p < M.rows → put s.y i zero_ℚ p <ℚ zero_ℚ → M.upper_side p ≡ Some (value_at M p s.x)) i
        (λ l k. absurd (not_below (subst (λ a. a <ℚ zero_ℚ) (put-same s.y i zero_ℚ) k)))
        (λ p n l k. sym (put-other M.upper_side i None p n) ∙ h.pays_high p l (subst (λ a. a <ℚ zero_ℚ) (put-other s.y i zero_ℚ p n) k) ∙ ap Some (value-without_row M i p s.x n));
    at_low = h.at_low;
    at_high = h.at_high;
  };
}

-- ---- more for one row
-- the program with other bounds
abbrev pub bounded : LinearProgram → (ℕ → Option Number) → (ℕ → Option Number) → LinearProgram
bounded M l u = record M { lower_bound = l; upper_bound = u }

pub reduced-moved : (M : LinearProgram) (i : ℕ) (y : Vector) (d : Number) (j : ℕ) → i < M.rows → reduced_cost M (put y i (y i +ℚ d)) j ≡ reduced_cost M y j -ℚ M.coefficient i j *ℚ d
reduced-moved M i y d j l =
    ap (λ t. M.costs j -ℚ t) (total-put_factor M.rows y (λ p. M.coefficient p j) i (y i +ℚ d) l)
    ∙ ring rational (M.costs j ∷ total M.rows (λ p. y p *ℚ M.coefficient p j) ∷ y i ∷ d ∷ M.coefficient i j ∷ []) (v 0 :- (v 1 :+ (v 2 :+ v 3 :- v 2) :* v 4)) (v 0 :- v 1 :- v 4 :* v 3) refl

pub transfer : (M : LinearProgram) (l u : ℕ → Option Number) (i : ℕ) (d : Number) (s : Priced) → i < M.rows → Carries (bounded M l u) s → Feasible M s.x
    → (zero_ℚ <ℚ d → M.lower_side i ≡ Some (value_at M i s.x)) → (d <ℚ zero_ℚ → M.upper_side i ≡ Some (value_at M i s.x))
    → ((k : ℕ) → k < M.columns → zero_ℚ <ℚ (s.z k -ℚ M.coefficient i k *ℚ d) → M.lower_bound k ≡ Some (s.x k))
    → ((k : ℕ) → k < M.columns → (s.z k -ℚ M.coefficient i k *ℚ d) <ℚ zero_ℚ → M.upper_bound k ≡ Some (s.x k))
    → Carries M (moved i (M.coefficient i) d s)
transfer M l u i d s li h f pl ph zl zh = record {
  continuous = h.continuous;
  feasible = f;
  left = λ j m. ap (λ z. z -ℚ M.coefficient i j *ℚ d) (h.left j m) ∙ sym (reduced-moved M i s.y d j li);
  pays_low = at_or_off (λ p. p < M.rows → zero_ℚ <ℚ put s.y i (s.y i +ℚ d) p → M.lower_side p ≡ Some (value_at M p s.x)) i
      (λ m k. let q : zero_ℚ <ℚ (s.y i +ℚ d) = subst (λ a. zero_ℚ <ℚ a) (put-same s.y i (s.y i +ℚ d)) k in
      elim (≤ℚ_cases d zero_ℚ) [
        | inl e ↦ h.pays_low i m (below_if_not (λ t. <ℚ-not q (linear (s.y i ∷ d ∷ []) (fact 1 (v 0) (num (pos 0)) ∷ fact 1 (v 1) (num (pos 0)) ∷ []) 0 (v 0 :+ v 1) (num (pos 0)) (t, (e, tt)) refl)))
        | inr e ↦ pl e
      ])
      (λ p n m k. h.pays_low p m (subst (λ a. zero_ℚ <ℚ a) (put-other s.y i (s.y i +ℚ d) p n) k));
  pays_high = at_or_off (λ p. p < M.rows → put s.y i (s.y i +ℚ d) p <ℚ zero_ℚ → M.upper_side p ≡ Some (value_at M p s.x)) i
      (λ m k. let q : (s.y i +ℚ d) <ℚ zero_ℚ = subst (λ a. a <ℚ zero_ℚ) (put-same s.y i (s.y i +ℚ d)) k in
      elim (≤ℚ_cases zero_ℚ d) [
        | inl e ↦ h.pays_high i m (below_if_not (λ t. <ℚ-not q (linear (s.y i ∷ d ∷ []) (fact 1 (num (pos 0)) (v 0) ∷ fact 1 (num (pos 0)) (v 1) ∷ []) 0 (num (pos 0)) (v 0 :+ v 1) (t, (e, tt)) refl)))
        | inr e ↦ ph e
      ])
      (λ p n m k. h.pays_high p m (subst (λ a. a <ℚ zero_ℚ) (put-other s.y i (s.y i +ℚ d) p n) k));
  at_low = zl;
  at_high = zh;
}

-- the conditions of a column whose z falls by e
pub still_low : (z e x : Number) (l : Option Number) → (zero_ℚ <ℚ z → l ≡ Some x) → (e <ℚ zero_ℚ → l ≡ Some x) → zero_ℚ <ℚ (z -ℚ e) → l ≡ Some x
still_low z e x l f g k = elim (≤ℚ_cases zero_ℚ e) [
  | inl h ↦ f (below_if_not (λ t. <ℚ-not k (linear (z ∷ e ∷ []) (fact 1 (v 0) (num (pos 0)) ∷ fact 1 (num (pos 0)) (v 1) ∷ []) 0 (v 0 :- v 1) (num (pos 0)) (t, (h, tt)) refl)))
  | inr h ↦ g h
]

pub still_high : (z e x : Number) (u : Option Number) → (z <ℚ zero_ℚ → u ≡ Some x) → (zero_ℚ <ℚ e → u ≡ Some x) → (z -ℚ e) <ℚ zero_ℚ → u ≡ Some x
still_high z e x u f g k = elim (≤ℚ_cases e zero_ℚ) [
  | inl h ↦ f (below_if_not (λ t. <ℚ-not k (linear (z ∷ e ∷ []) (fact 1 (num (pos 0)) (v 0) ∷ fact 1 (v 1) (num (pos 0)) ∷ []) 0 (num (pos 0)) (v 0 :- v 1) (t, (h, tt)) refl)))
  | inr h ↦ g h
]

-- ---- sums that reach their ends
pub some_inj : {a b : Number} → Some a ≡ Some b → a ≡ b
some_inj e = cc

pub plus_some : (p q : Option Number) (g : Number) → plus p q ≡ Some g → (a : Number) × (b : Number) × (p ≡ Some a) × (q ≡ Some b) × (a +ℚ b ≡ g)
plus_some None q g e = cc
plus_some (Some a) None g e = cc
plus_some (Some a) (Some b) g e = (a, b, refl, refl, some_inj e)

pub tight_high : (n : ℕ) (e : ℕ → Option Number) (f : ℕ → Number) (g : Number) → ((k : ℕ) → k < n → AtMost (e k) (f k)) → total_ends n e ≡ Some g → g ≤ℚ total n f → (k : ℕ) → k < n → e k ≡ Some (f k)
unfolding total_ends total
tight_high zero e f g b t r k l = absurd (omega arith)
tight_high (suc n) e f g b t r k l =
    let p = plus_some (total_ends n e) (e n) g t in
    let q : g ≤ℚ (total n f +ℚ f n) = r in
    let last : f n ≤ℚ p.1 = subst (λ o. AtMost o (f n)) p.3 (b n (omega arith)) in
    let first : total n f ≤ℚ p.0 = subst (λ o. AtMost o (total n f)) p.2 (total_ends-high n e f (λ k l. b k (omega arith))) in
    let sum : (p.0 +ℚ p.1) ≤ℚ (total n f +ℚ f n) = subst (λ c. c ≤ℚ (total n f +ℚ f n)) (sym p.4) q in
    elim (cases_eq k n) [
      | inl m ↦ rw m (p.3 ∙ ap Some (≤ℚ_antisym (linear (p.0 ∷ p.1 ∷ total n f ∷ f n ∷ []) (fact 1 (v 0 :+ v 1) (v 2 :+ v 3) ∷ fact 1 (v 2) (v 0) ∷ []) 0 (v 1) (v 3) (sum, (first, tt)) refl) last))
      | inr m ↦ tight_high n e f p.0 (λ k l. b k (omega arith)) p.2 (linear (p.0 ∷ p.1 ∷ total n f ∷ f n ∷ []) (fact 1 (v 0 :+ v 1) (v 2 :+ v 3) ∷ fact 1 (v 3) (v 1) ∷ []) 0 (v 0) (v 2) (sum, (last, tt)) refl) k (omega arith)
    ]

pub tight_low : (n : ℕ) (e : ℕ → Option Number) (f : ℕ → Number) (g : Number) → ((k : ℕ) → k < n → AtLeast (e k) (f k)) → total_ends n e ≡ Some g → total n f ≤ℚ g → (k : ℕ) → k < n → e k ≡ Some (f k)
unfolding total_ends total
tight_low zero e f g b t r k l = absurd (omega arith)
tight_low (suc n) e f g b t r k l =
    let p = plus_some (total_ends n e) (e n) g t in
    let q : (total n f +ℚ f n) ≤ℚ g = r in
    let last : p.1 ≤ℚ f n = subst (λ o. AtLeast o (f n)) p.3 (b n (omega arith)) in
    let first : p.0 ≤ℚ total n f = subst (λ o. AtLeast o (total n f)) p.2 (total_ends-low n e f (λ k l. b k (omega arith))) in
    let sum : (total n f +ℚ f n) ≤ℚ (p.0 +ℚ p.1) = subst (λ c. (total n f +ℚ f n) ≤ℚ c) (sym p.4) q in
    elim (cases_eq k n) [
      | inl m ↦ rw m (p.3 ∙ ap Some (≤ℚ_antisym last (linear (p.0 ∷ p.1 ∷ total n f ∷ f n ∷ []) (fact 1 (v 2 :+ v 3) (v 0 :+ v 1) ∷ fact 1 (v 0) (v 2) ∷ []) 0 (v 3) (v 1) (sum, (first, tt)) refl)))
      | inr m ↦ tight_low n e f p.0 (λ k l. b k (omega arith)) p.2 (linear (p.0 ∷ p.1 ∷ total n f ∷ f n ∷ []) (fact 1 (v 2 :+ v 3) (v 0 :+ v 1) ∷ fact 1 (v 1) (v 3) ∷ []) 0 (v 2) (v 0) (sum, (last, tt)) refl) k (omega arith)
    ]

pub cancel : (a x y : Number) → a ≢ zero_ℚ → a *ℚ x ≡ a *ℚ y → x ≡ y
cancel a x y n e = sym (times-over a x n) ∙ ap (λ c. c /ℚ a) e ∙ times-over a y n

scaled_some : (a x : Number) (l : Option Number) → a ≢ zero_ℚ → scaled a l ≡ Some (a *ℚ x) → l ≡ Some x
scaled_some a x None n e = cc
scaled_some a x (Some b) n e = ap Some (cancel a b x n (some_inj e))

-- a term at its least end
pub term_tight : (a x : Number) (l u : Option Number) → least_term a l u ≡ Some (a *ℚ x) → (zero_ℚ <ℚ a → l ≡ Some x) × (a <ℚ zero_ℚ → u ≡ Some x)
unfolding least_term
term_tight a x l u = by (lt_ℚ zero_ℚ a) (lt_ℚ a zero_ℚ) refl refl
  where
    by : (s t : Bool) → lt_ℚ zero_ℚ a ≡ s → lt_ℚ a zero_ℚ ≡ t → (if s then scaled a l else if t then scaled a u else Some zero_ℚ) ≡ Some (a *ℚ x) → (zero_ℚ <ℚ a → l ≡ Some x) × (a <ℚ zero_ℚ → u ≡ Some x)
    by true t e f m = ((λ p. scaled_some a x l (<ℚ-≢ p) m), λ p. absurd (<ℚ-not p (<ℚ-≤ℚ (lt_true _ _ e))))
    by false true e f m = ((λ p. absurd (<ℚ-not p (lt_false _ _ e))), λ p. scaled_some a x u (<ℚ-≢' p) m)
    by false false e f m = ((λ p. absurd (<ℚ-not p (lt_false _ _ e))), λ p. absurd (<ℚ-not p (lt_false _ _ f)))
