-- Sums of whole numbers, step by step.
use Rattle.std.proofs.Common.{◌≡◌, ◌<◌, ◌^◌, ◌+◌, ℕ, ℤ, pos, nat_abs, List, [], ◌∷◌, ◌++◌, reverse, take, drop, Bool, true, false, true≢false, Result, Ok, Err, length, get_or, refl, sym, ap, ap₂, ◌∙◌, subst}
use Rattle.std.specs.Prelude.{neg_ℤ, ◌+ℤ◌, ◌&&◌, nat_lt, IsErr, OkIff}
use Rattle.std.proofs.Math.IntN.{neg_ℤ-+ℤ, neg_ℤ-neg_ℤ}
use Rattle.std.proofs.lemmas.Bool.{and_parts, ltb-true}
use Rattle.std.proofs.lemmas.List.{reverse-append, take-append-drop, take_more}
use Rattle.fractions.specs.Divisors.{nat_abs-neg}
use Rattle.opb_text.specs.Statements.{in_range, left_fits, left_of, sum_fits, sum_of}

-- 0 less numbers is minus their sum
pub less_sum : (numbers : List ℤ) → neg_ℤ (left_of (pos 0) numbers) ≡ sum_of numbers
less_sum [] = refl
less_sum (n ∷ before) = neg_ℤ-+ℤ (left_of (pos 0) before) (neg_ℤ n) ∙ ap₂ (λ (x y : ℤ). x +ℤ y) (less_sum before) (neg_ℤ-neg_ℤ n)

in_range_neg : (z : ℤ) → in_range (neg_ℤ z) ≡ in_range z
in_range_neg z = ap (λ (n : ℕ). nat_lt n (2 ^ 127)) (nat_abs-neg z)

pub less_fits : (numbers : List ℤ) → left_fits (pos 0) numbers ≡ sum_fits numbers
less_fits [] = refl
less_fits (n ∷ before) =
    ap₂ (λ (x y : Bool). x && y) (less_fits before) (sym (in_range_neg (left_of (pos 0) (n ∷ before))) ∙ ap in_range (less_sum (n ∷ before)))

pub reverse_push : {A : Type 0} (xs : List A) (x : A) → reverse (xs ++ x ∷ []) ≡ x ∷ reverse xs
reverse_push xs x = reverse-append xs (x ∷ [])

-- where all steps fit the first ones do
fits_before : (side : ℤ) (later before : List ℤ) → left_fits side (later ++ before) ≡ true → left_fits side before ≡ true
fits_before side [] before fits = fits
fits_before side (n ∷ later) before fits = fits_before side later before (and_parts (left_fits side (later ++ before)) (in_range (left_of side (n ∷ later ++ before))) fits).0

pub fits_first : (side : ℤ) (numbers : List ℤ) (k : ℕ) → left_fits side (reverse numbers) ≡ true → left_fits side (reverse (take k numbers)) ≡ true
fits_first side numbers k fits =
    fits_before side (reverse (drop k numbers)) (reverse (take k numbers))
    (subst (λ (xs : List ℤ). left_fits side xs ≡ true) (ap reverse (sym (take-append-drop k numbers)) ∙ reverse-append (take k numbers) (drop k numbers)) fits)

-- a step that is past the range
pub step_past : (side left less item : ℤ) (numbers : List ℤ) (i : ℕ) → i < length numbers → item ≡ get_or numbers i item → left ≡ left_of side (reverse (take i numbers)) → less ≡ neg_ℤ item
    → (nat_abs (left +ℤ less) < 2 ^ 127 → ⊥) → left_fits side (reverse numbers) ≡ true → ⊥
step_past side left less item numbers i below is left_is less_is past fits =
    let first = fits_first side numbers (i + 1) fits in
    let taken : reverse (take (i + 1) numbers) ≡ item ∷ reverse (take i numbers) =
    ap reverse (take_more numbers i item below) ∙ reverse_push (take i numbers) (get_or numbers i item) ∙ ap (λ (x : ℤ). x ∷ reverse (take i numbers)) (sym is) in
    let parts = and_parts (left_fits side (reverse (take i numbers))) (in_range (left_of side (item ∷ reverse (take i numbers)))) (subst (λ (xs : List ℤ). left_fits side xs ≡ true) taken first) in
    let here : left +ℤ less ≡ left_of side (item ∷ reverse (take i numbers)) = ap₂ (λ (x y : ℤ). x +ℤ y) left_is less_is in
    past (subst (λ (z : ℤ). nat_abs z < 2 ^ 127) (sym here) (ltb-true _ (2 ^ 127) parts.1))

pub refused : {T E : Type 0} (r : Result T E) (P : Type 0) (v : T) → IsErr r → (P → ⊥) → OkIff r P v
refused (Ok x) P v err never = absurd (true≢false (sym err))
refused (Err e) P v err never = never

pub not_true : (b : Bool) → (b ≡ true → ⊥) → false ≡ b
not_true true never = absurd (never refl)
not_true false never = refl
