-- Terms by ascending id that tell the same numbers are the same.
use Rattle.std.proofs.Common.{◌≡◌, ◌≢◌, ℕ, suc, ◌<◌, ◌≤◌, List, [], ◌∷◌, sym, refl, ap₂, ◌∙◌, subst, arith, ◌⊎◌, inl, inr}
use Rattle.std.proofs.lemmas.Bool.{cases_eq, cases_lt}
use Rattle.lp_model.specs.declared.terms.Term.{Term}
use Rattle.lp_model.specs.Sparse.{Ascends, dense}
use Rattle.problem_laws.proofs.Terms.{dense-absent, dense-cons_other, dense-cons_same, has-below}

-- the same numbers at the ids from m on that are below n
abbrev pub TellAlike : ℕ → ℕ → List Term → List Term → Type 0
TellAlike m n ts us = (k : ℕ) → m ≤ k → k < n → dense ts k ≡ dense us k

-- where a term stands, terms by larger ids tell something else
tells_more : (t : Term) (ts us : List Term) (m n p : ℕ) → Ascends m n (t ∷ ts) → Ascends p n us → t.id < p → dense (t ∷ ts) t.id ≢ dense us t.id
tells_more t ts us m n p a b l e = a.2 (sym (dense-cons_same t ts t.id refl) ∙ e ∙ dense-absent t.id us (has-below us p n t.id b l))

pub same_terms : (m n : ℕ) (ts us : List Term) → Ascends m n ts → Ascends m n us → TellAlike m n ts us → ts ≡ us
same_terms m n [] [] a b h = refl
same_terms m n (t ∷ ts) [] a b h = absurd (tells_more t ts [] m n (suc t.id) a tt (omega arith) (h t.id a.0 a.1))
same_terms m n [] (u ∷ us) a b h = absurd (tells_more u us [] m n (suc u.id) b tt (omega arith) (sym (h u.id b.0 b.1)))
same_terms m n (t ∷ ts) (u ∷ us) a b h = by (cases_eq t.id u.id) (same_terms (suc t.id) n ts us a.3)
  where
    later : (x : Term) (xs : List Term) → Ascends m n (x ∷ xs) → Ascends x.id n (x ∷ xs)
    later x xs c = (omega arith, c.1, c.2, c.3)

    apart : (t.id < u.id) ⊎ (u.id ≤ t.id) → t.id ≢ u.id → ⊥
    apart (inl l) d = tells_more t ts (u ∷ us) m n u.id a (later u us b) l (h t.id a.0 a.1)
    apart (inr g) d = tells_more u us (t ∷ ts) m n t.id b (later t ts a) (omega (arith, g, d)) (sym (h u.id b.0 b.1))

    values : t.id ≡ u.id → t.value ≡ u.value
    values e = sym (dense-cons_same t ts t.id refl) ∙ h t.id a.0 a.1 ∙ dense-cons_same u us t.id (sym e)

    rest : t.id ≡ u.id → TellAlike (suc t.id) n ts us
    rest e k l g = let d : t.id ≢ k = omega (arith, l) in let f : u.id ≢ k = omega (arith, l, e) in sym (dense-cons_other t ts k d) ∙ h k (omega (arith, l, a.0)) g ∙ dense-cons_other u us k f

    by : (t.id ≡ u.id) ⊎ (t.id ≢ u.id) → (Ascends (suc t.id) n us → TellAlike (suc t.id) n ts us → ts ≡ us) → t ∷ ts ≡ u ∷ us
    by (inl e) ih = ap₂ (λ (x : Term) (xs : List Term). x ∷ xs) (λ i. record { id = e i; value = values e i }) (ih (subst (λ (k : ℕ). Ascends (suc k) n us) (sym e) b.3) (rest e))
    by (inr d) ih = absurd (apart (cases_lt t.id u.id) d)
