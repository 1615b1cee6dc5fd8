-- Lists in which the places that terms name are written anew.
use Rattle.std.proofs.Common.{◌≡◌, ◌≢◌, ℕ, suc, ◌+◌, ◌<◌, ◌≤◌, Bool, List, [], ◌∷◌, length, drop, set, get_or, sym, refl, ap, ◌∙◌, arith, ◌⊎◌, inl, inr}
use Rattle.std.specs.Prelude.{if◌then◌else◌}
use Rattle.std.proofs.lemmas.Bool.{cases_eq}
use Rattle.std.proofs.lemmas.List.{get_or-set_same, get_or-set_other, length-set, at_drop_more}
use Rattle.fractions.specs.Number.{Number}
use Rattle.lp_model.specs.declared.terms.Term.{Term}
use Rattle.lp_model.specs.Sparse.{Ascends, dense, has}
use Rattle.problem_laws.proofs.Terms.{has-cons_same, has-cons_other, has-below, dense-cons_same, dense-cons_other}
use Rattle.entry_lines.specs.Places.{edited_at}

-- the term at an id
abbrev pub term_at : ℕ → List Term → Term
term_at k ts = record { id = k; value = dense ts k }

-- one term on
pub edited_step : {X : Type 0} (d : X) (f : Term → X → X) (xs : List X) (ts : List Term) (n : ℕ) (t : Term) (y : X) → n < length ts → t ≡ get_or ts n t → y ≡ f t (get_or xs t.id d)
    → edited_at d f (set xs t.id y) (drop (n + 1) ts) ≡ edited_at d f xs (drop n ts)
edited_step d f xs ts n t y l e h =
    ap (λ z. edited_at d f (set xs t.id z) (drop (n + 1) ts)) h
    ∙ sym (at_drop_more (edited_at d f xs) ts n t l ∙ ap (λ (u : Term). edited_at d f xs (u ∷ drop (n + 1) ts)) (sym e))

pub length-edited_at : {X : Type 0} (d : X) (f : Term → X → X) (xs : List X) (ts : List Term) → length (edited_at d f xs ts) ≡ length xs
length-edited_at d f xs [] = refl
length-edited_at d f xs (t ∷ ts) = length-edited_at d f (set xs t.id (f t (get_or xs t.id d))) ts ∙ length-set xs t.id (f t (get_or xs t.id d))

-- each place that is named is written once, and no other is
pub edited_at-at : {X : Type 0} (d : X) (f : Term → X → X) (xs : List X) (ts : List Term) (m n : ℕ) → Ascends m n ts → n ≤ length xs → (k : ℕ)
    → get_or (edited_at d f xs ts) k d ≡ if has k ts then f (term_at k ts) (get_or xs k d) else get_or xs k d
edited_at-at d f xs [] m n a l k = refl
edited_at-at {X} d f xs (t ∷ ts) m n a l k =
    by (cases_eq t.id k) (edited_at-at d f (set xs t.id (f t (get_or xs t.id d))) ts (suc t.id) n a.3 (omega (arith, l, length-set xs t.id (f t (get_or xs t.id d)))) k)
  where
    y : X
    y = f t (get_or xs t.id d)

    next : List X
    next = set xs t.id y

    here : t.id ≡ k → t ≡ term_at k (t ∷ ts)
    here e = λ x. record { id = e x; value = sym (dense-cons_same t ts k e) x }

    by : (t.id ≡ k) ⊎ (t.id ≢ k) → get_or (edited_at d f next ts) k d ≡ (if has k ts then f (term_at k ts) (get_or next k d) else get_or next k d)
        → get_or (edited_at d f next ts) k d ≡ if has k (t ∷ ts) then f (term_at k (t ∷ ts)) (get_or xs k d) else get_or xs k d
    by (inl e) rest =
        rest ∙ ap (λ (b : Bool). if b then f (term_at k ts) (get_or next k d) else get_or next k d) (has-below ts (suc t.id) n k a.3 (omega (arith, e)))
        ∙ ap (λ (i : ℕ). get_or next i d) (sym e)
        ∙ get_or-set_same xs t.id y d (omega (arith, a.1, l))
        ∙ ap (λ (u : Term). f u (get_or xs t.id d)) (here e)
        ∙ ap (λ (i : ℕ). f (term_at k (t ∷ ts)) (get_or xs i d)) e
        ∙ sym (ap (λ (b : Bool). if b then f (term_at k (t ∷ ts)) (get_or xs k d) else get_or xs k d) (has-cons_same k t ts e))
    by (inr o) rest =
        rest
        ∙ ap (λ (z : X). if has k ts then f (term_at k ts) z else z) (get_or-set_other xs t.id k y d (λ e. o (sym e)))
        ∙ ap (λ (q : Number). if has k ts then f (record { id = k; value = q }) (get_or xs k d) else get_or xs k d) (sym (dense-cons_other t ts k o))
        ∙ sym (ap (λ (b : Bool). if b then f (term_at k (t ∷ ts)) (get_or xs k d) else get_or xs k d) (has-cons_other k t ts o))
