-- Terms by the coefficients of rows, and an entry more.
use Rattle.std.proofs.Common.{◌≡◌, ◌≢◌, ◌⊎◌, inl, inr, ℕ, zero, suc, ◌+◌, ◌<◌, ◌≤◌, Bool, true, false, cond, nat_lt, List, [], ◌∷◌, Option, Some, None, ◌∙◌, sym, refl, ap, ap₂, arith, eq-eqb, add-one}
use Rattle.std.specs.Prelude.{◌==◌, ◌||◌, if◌then◌else◌, insert, is_some}
use Rattle.std.specs.Option.{option_or, option_map}
use Rattle.std.specs.List.{filter_map, range_with_len, prefix_len, cons_option}
use Rattle.std.proofs.lemmas.Bool.{cases_eq, ne_eqb}
use Rattle.std.proofs.lemmas.Bool.Decides.{nat_tests}
use Rattle.lp_model.specs.declared.terms.Term.{Term}
use Rattle.lp_model.specs.Sparse.{has}
use Rattle.lp_gen.specs.Columns.{term, terms_of, coefficient_in, entry_row, entry_coefficient}

-- the terms of the n rows from a on
abbrev pub terms_on : (ℕ → Option ℕ) → ℕ → ℕ → List Term
terms_on f a n = filter_map (λ i. option_map (term i) (f i)) (range_with_len a n)

-- an entry more, unless its row has a coefficient
abbrev pub with_entry : (ℕ → Option ℕ) → ℕ → ℕ → ℕ → Option ℕ
with_entry f row c i = option_or (f i) (if row == i then Some c else None)

pub coefficient_more : (seed rows k i : ℕ) → coefficient_in seed rows (k + 1) i ≡ with_entry (coefficient_in seed rows k) (entry_row seed rows k) (entry_coefficient seed k) i
unfolding coefficient_in
coefficient_more seed rows k i = ap (λ (n : ℕ). coefficient_in seed rows n i) (add-one k)

pub no_coefficient : (seed rows i : ℕ) → coefficient_in seed rows 0 i ≡ None
unfolding coefficient_in
no_coefficient seed rows i = refl

pub kept : (f : ℕ → Option ℕ) (row c i d : ℕ) → f row ≡ Some d → with_entry f row c i ≡ f i
kept f row c i d old = by (cases_eq row i) (f i) refl
  where
    by : (row ≡ i) ⊎ (row ≡ i → ⊥) → (o : Option ℕ) → f i ≡ o → option_or o (if row == i then Some c else None) ≡ o
    by e (Some x) is = refl
    by (inl e) None is = let clash : f row ≡ None = ap f e ∙ is in cc
    by (inr e) None is = ap (λ (b : Bool). cond b (Some c) None) (ne_eqb row i e)

pub other : (f : ℕ → Option ℕ) (row c i : ℕ) → row ≢ i → with_entry f row c i ≡ f i
other f row c i ne = by (f i)
  where
    by : (o : Option ℕ) → option_or o (if row == i then Some c else None) ≡ o
    by (Some x) = refl
    by None = ap (λ (b : Bool). cond b (Some c) None) (ne_eqb row i ne)

pub taken : (f : ℕ → Option ℕ) (row c : ℕ) → f row ≡ None → with_entry f row c row ≡ Some c
taken f row c new = ap (λ (o : Option ℕ). option_or o (if row == row then Some c else None)) new ∙ ap (λ (b : Bool). cond b (Some c) None) (eq-eqb row row refl)

-- ---- terms of the same coefficients
pub terms_same : (f g : ℕ → Option ℕ) (a n : ℕ) → ((k : ℕ) → a ≤ k → f k ≡ g k) → terms_on f a n ≡ terms_on g a n
terms_same f g a zero same = refl
terms_same f g a (suc n) same =
    ap₂ (λ (o : Option ℕ) (ts : List Term). cons_option (option_map (term a) o) ts) (same a (omega arith)) (terms_same f g (a + 1) n (λ k l. same k (omega (arith, l))))

-- ---- which rows have terms
has_past : (f : ℕ → Option ℕ) (a n i : ℕ) → i < a → has i (terms_on f a n) ≡ false
has_past f a zero i l = refl
has_past f a (suc n) i l = by (f a) (has_past f (a + 1) n i (omega (arith, l)))
  where
    by : (o : Option ℕ) → has i (terms_on f (a + 1) n) ≡ false → has i (cons_option (option_map (term a) o) (terms_on f (a + 1) n)) ≡ false
    by None e = e
    by (Some c) e = ap (λ (b : Bool). b || has i (terms_on f (a + 1) n)) (ne_eqb a i (λ same. omega (arith, same, l))) ∙ e

pub has_terms : (f : ℕ → Option ℕ) (a n i : ℕ) → a ≤ i → i < a + n → has i (terms_on f a n) ≡ is_some (f i)
has_terms f a zero i low high = absurd (omega (arith, low, high))
has_terms f a (suc n) i low high = by (λ l h. has_terms f (a + 1) n i l h) (cases_eq a i) (f a) refl
  where
    by : (a + 1 ≤ i → i < a + 1 + n → has i (terms_on f (a + 1) n) ≡ is_some (f i)) → (a ≡ i) ⊎ (a ≡ i → ⊥) → (o : Option ℕ) → f a ≡ o → has i (cons_option (option_map (term a) o) (terms_on f (a + 1) n)) ≡ is_some (f i)
    by later (inl e) None is = has_past f (a + 1) n i (omega (arith, e)) ∙ ap is_some (sym is ∙ ap f e)
    by later (inl e) (Some c) is = ap (λ (b : Bool). b || has i (terms_on f (a + 1) n)) (eq-eqb a i e) ∙ ap is_some (sym is ∙ ap f e)
    by later (inr e) None is = later (omega (arith, low, e)) (omega (arith, high))
    by later (inr e) (Some c) is = ap (λ (b : Bool). b || has i (terms_on f (a + 1) n)) (ne_eqb a i e) ∙ later (omega (arith, low, e)) (omega (arith, high))

-- ---- a term more at its place
abbrev place : ℕ → List Term → ℕ
place row ts = prefix_len (λ t. nat_lt t.id row) ts

place_past : (f : ℕ → Option ℕ) (a n row : ℕ) → row ≤ a → place row (terms_on f a n) ≡ 0
place_past f a zero row l = refl
place_past f a (suc n) row l = by (f a) (place_past f (a + 1) n row (omega (arith, l)))
  where
    later : nat_lt a row ≡ false
    later = grind (arith, nat_tests, l)

    by : (o : Option ℕ) → place row (terms_on f (a + 1) n) ≡ 0 → place row (cons_option (option_map (term a) o) (terms_on f (a + 1) n)) ≡ 0
    by None e = e
    by (Some c) e = ap (λ (b : Bool). cond b (1 + place row (terms_on f (a + 1) n)) 0) later

pub put_term : (f g : ℕ → Option ℕ) (a n row c : ℕ) → a ≤ row → row < a + n → f row ≡ None → g row ≡ Some c → ((k : ℕ) → row ≢ k → g k ≡ f k)
    → insert (terms_on f a n) (place row (terms_on f a n)) (term row c) ≡ terms_on g a n
put_term f g a zero row c low high none some others = absurd (omega (arith, low, high))
put_term f g a (suc n) row c low high none some others = by (λ l h. put_term f g (a + 1) n row c l h none some others) (cases_eq a row) (f a) refl
  where
    left : List Term
    left = terms_on f (a + 1) n

    right : List Term
    right = terms_on g (a + 1) n

    by : (a + 1 ≤ row → row < a + 1 + n → insert left (place row left) (term row c) ≡ right) → (a ≡ row) ⊎ (a ≡ row → ⊥) → (o : Option ℕ) → f a ≡ o
        → insert (cons_option (option_map (term a) o) left) (place row (cons_option (option_map (term a) o) left)) (term row c) ≡ cons_option (option_map (term a) (g a)) right
    by later (inl e) (Some d) is = let clash : f a ≡ None = ap f e ∙ none in cc
    by later (inl e) None is =
        let here : g a ≡ Some c = ap g e ∙ some in
        let first : place row left ≡ 0 = place_past f (a + 1) n row (omega (arith, e)) in
        let rest : left ≡ right = terms_same f g (a + 1) n (λ k l. sym (others k (λ same. omega (arith, same, e, l)))) in
        ap (λ (p : ℕ). insert left p (term row c)) first
        ∙ ap₂ (λ (r : ℕ) (ts : List Term). term r c ∷ ts) (sym e) rest
        ∙ ap (λ (o : Option ℕ). cons_option (option_map (term a) o) right) (sym here)
    by later (inr e) None is =
        let here : g a ≡ None = others a (λ same. e (sym same)) ∙ is in
        later (omega (arith, low, e)) (omega (arith, high))
        ∙ ap (λ (o : Option ℕ). cons_option (option_map (term a) o) right) (sym here)
    by later (inr e) (Some d) is =
        let here : g a ≡ Some d = others a (λ same. e (sym same)) ∙ is in
        let before : nat_lt a row ≡ true = grind (arith, nat_tests, low, e) in
        let counted : cond (nat_lt a row) (1 + place row left) 0 ≡ suc (place row left) = ap (λ (b : Bool). cond b (1 + place row left) 0) before ∙ omega arith in
        ap (λ (p : ℕ). insert (term a d ∷ left) p (term row c)) counted
        ∙ ap (λ (ts : List Term). term a d ∷ ts) (later (omega (arith, low, e)) (omega (arith, high)))
        ∙ ap (λ (o : Option ℕ). cons_option (option_map (term a) o) right) (sym here)

-- no entries give no terms
pub no_terms : (seed rows : ℕ) → terms_of seed rows 0 ≡ []
no_terms seed rows = terms_same (coefficient_in seed rows 0) (λ i. None) 0 rows (λ i l. no_coefficient seed rows i) ∙ none_on 0 rows
  where
    none_on : (a n : ℕ) → terms_on (λ i. None) a n ≡ []
    none_on a zero = refl
    none_on a (suc n) = none_on (a + 1) n
