-- A number looked for in one part of terms whose ids ascend.
use Rattle.std.proofs.Common.{◌≡◌, ◌≢◌, ◌⊎◌, inl, inr, ℕ, suc, ◌-◌, ◌<◌, ◌≤◌, arith, length, get_or, take, drop, take-append-drop, List, [], ◌∷◌, ◌++◌, sym, refl, ap, ap₂, ◌∙◌, subst}
use Rattle.std.proofs.lemmas.Bool.{cases_eq}
use Rattle.lp_model.specs.declared.terms.Term.{Term}
use Rattle.lp_model.specs.Sparse.{Ascends, dense}
use Rattle.problem_laws.proofs.Terms.{ascends-wider, dense-absent, dense-cons_other, dense-cons_same, has-below}
use Rattle.sparse_problem.proofs.Mending.{after_is}

-- a term stands behind those before it
from_there : (a : List Term) (t : Term) (b : List Term) (m n : ℕ) → Ascends m n (a ++ t ∷ b) → m ≤ t.id
from_there [] t b m n s = s.0
from_there (u ∷ a) t b m n s = omega (arith, s.0, from_there a t b (suc u.id) n s.3)

pub ascends_before : (a : List Term) (t : Term) (b : List Term) (m n : ℕ) → Ascends m n (a ++ t ∷ b) → Ascends m n a
ascends_before [] t b m n s = tt
ascends_before (u ∷ a) t b m n s = (s.0, s.1, s.2, ascends_before a t b (suc u.id) n s.3)

pub ascends_after : (a : List Term) (t : Term) (b : List Term) (m n : ℕ) → Ascends m n (a ++ t ∷ b) → Ascends 0 n b
ascends_after [] t b m n s = ascends-wider b (suc t.id) 0 n (omega arith) s.3
ascends_after (u ∷ a) t b m n s = ascends_after a t b (suc u.id) n s.3

pub dense_there : (a : List Term) (t : Term) (b : List Term) (m n : ℕ) → Ascends m n (a ++ t ∷ b) → dense (a ++ t ∷ b) t.id ≡ t.value
dense_there [] t b m n s = dense-cons_same t b t.id refl
dense_there (u ∷ a) t b m n s = dense-cons_other u (a ++ t ∷ b) t.id (omega (arith, from_there a t b (suc u.id) n s.3)) ∙ dense_there a t b (suc u.id) n s.3

pub dense_after : (a : List Term) (t : Term) (b : List Term) (m n k : ℕ) → t.id < k → Ascends m n (a ++ t ∷ b) → dense (a ++ t ∷ b) k ≡ dense b k
dense_after [] t b m n k e s = dense-cons_other t b k (omega (arith, e))
dense_after (u ∷ a) t b m n k e s = dense-cons_other u (a ++ t ∷ b) k (omega (arith, e, from_there a t b (suc u.id) n s.3)) ∙ dense_after a t b (suc u.id) n k e s.3

pub dense_before : (a : List Term) (t : Term) (b : List Term) (m n k : ℕ) → k < t.id → Ascends m n (a ++ t ∷ b) → dense (a ++ t ∷ b) k ≡ dense a k
dense_before [] t b m n k e s = dense-absent k (t ∷ b) (has-below (t ∷ b) t.id n k (omega arith, s.1, s.2, s.3) e)
dense_before (u ∷ a) t b m n k e s = by (cases_eq u.id k) (dense_before a t b (suc u.id) n k e s.3)
  where
    by : (u.id ≡ k) ⊎ (u.id ≢ k) → dense (a ++ t ∷ b) k ≡ dense a k → dense ((u ∷ a) ++ t ∷ b) k ≡ dense (u ∷ a) k
    by (inl f) h = dense-cons_same u (a ++ t ∷ b) k f ∙ sym (dense-cons_same u a k f)
    by (inr d) h = dense-cons_other u (a ++ t ∷ b) k d ∙ h ∙ sym (dense-cons_other u a k d)

-- the middle of what is left, with what stands before it and behind it
module _ (rest a f : List Term) (i : ℕ) (t : Term) (front : a ≡ take i rest) (back : f ≡ drop i rest) (some : 1 ≤ length f) (first : t ≡ get_or f 0 t) (n : ℕ) (s : Ascends 0 n rest) where
  abbrev pub b : List Term
  b = take (length f - 1) (drop 1 f)

  parts : a ++ t ∷ b ≡ rest
  parts = ap₂ (λ (x y : List Term). x ++ y) front (after_is t f some first ∙ back) ∙ take-append-drop i rest

  split : Ascends 0 n (a ++ t ∷ b)
  split = subst (Ascends 0 n) (sym parts) s

  pub found : (k : ℕ) → t.id ≡ k → t.value ≡ dense rest k
  found k e = sym (dense_there a t b 0 n split) ∙ ap (λ (ts : List Term). dense ts t.id) parts ∙ ap (dense rest) e

  pub behind : (k : ℕ) → t.id < k → Ascends 0 n b × (dense b k ≡ dense rest k)
  behind k e = (ascends_after a t b 0 n split, sym (dense_after a t b 0 n k e split) ∙ ap (λ (ts : List Term). dense ts k) parts)

  pub before : (k : ℕ) → (t.id ≡ k → ⊥) → k ≤ t.id → Ascends 0 n a × (dense a k ≡ dense rest k)
  before k d e = (ascends_before a t b 0 n split, sym (dense_before a t b 0 n k (omega (arith, d, e)) split) ∙ ap (λ (ts : List Term). dense ts k) parts)
