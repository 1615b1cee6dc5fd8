-- How the digits of two numbers tell which is less.
use Rattle.std.proofs.Common.{rules, ◌≡◌, ℕ, suc, ◌+◌, ◌-◌, ◌*◌, ◌^◌, ◌<◌, ◌≤◌, Bool, true, false, cond, Less, Equal, Greater, List, [], ◌∷◌, length, arith, sym, ◌∙◌, refl, ap, lit<, mul-le-mul_right}
use Rattle.std.specs.Prelude.{◌==◌, ◌||◌, not, nat_lt, slice_index}
use Rattle.std.specs.List.{list_all}
use Rattle.std.specs.Char.{is_ascii_digit}
use Rattle.std.proofs.lemmas.Nat.{pow-add}
use Rattle.std.proofs.lemmas.Bool.Decides.{nat_tests}
use native.Mathlib.Nat.{pow-le-pow_right}
use Rattle.std.specs.Ordering.{is_lt, nat_cmp, ordering_then}
use Rattle.std.specs.Cmp.Lexicographic.{slice_cmp}
use Rattle.number_texts.specs.Form.{number_after, number, is_digits}
use Rattle.number_texts.proofs.Cutting.{Digits, both_true}
use Rattle.number_texts.proofs.ReachLaws.{number_after_least, number_after_most}
use Rattle.record_fields.specs.Words.{is_plain}

power_next : (k : ℕ) → 10 ^ suc k ≡ 10 * 10 ^ k
power_next k = let e : suc k ≡ 1 + k = omega arith in ap (λ (j : ℕ). 10 ^ j) e ∙ pow-add 10 1 k

digit_is : (c : ℕ) → is_ascii_digit c ≡ true → (48 ≤ c) × (c ≤ 57)
digit_is c e = (grind (arith, nat_tests), grind (arith, nat_tests))

-- the digits behind a number
pub number_after-is : (n : ℕ) (ds : List ℕ) → number_after n ds ≡ n * 10 ^ length ds + number_after 0 ds
number_after-is n [] = omega arith
number_after-is n (c ∷ cs) =
    let p : 10 ^ length (c ∷ cs) ≡ 10 * 10 ^ length cs = power_next (length cs) in
    let h = number_after-is (n * 10 + (c - 48)) cs in
    let k = number_after-is (0 * 10 + (c - 48)) cs in
    let q : (n * 10 + (c - 48)) * 10 ^ length cs ≡ n * (10 * 10 ^ length cs) + (0 * 10 + (c - 48)) * 10 ^ length cs = spread n (c - 48) (10 ^ length cs) in
    rw p (omega (arith, h, k, q))
  where
    spread : (n d x : ℕ) → (n * 10 + d) * x ≡ n * (10 * x) + (0 * 10 + d) * x
    spread n d x = search rules

-- behind the same number the digits decide
same_front : (n : ℕ) (vs ws : List ℕ) → length vs ≡ length ws → nat_lt (number_after 0 vs) (number_after 0 ws) ≡ nat_lt (number_after n vs) (number_after n ws)
same_front n vs ws l =
    let h = number_after-is n vs in
    let k = number_after-is n ws in
    let e : n * 10 ^ length vs ≡ n * 10 ^ length ws = ap (λ (j : ℕ). n * 10 ^ j) l in
    by (n * 10 ^ length ws) (number_after 0 vs) (number_after 0 ws) (number_after n vs) (number_after n ws) (omega (arith, h, e)) (omega (arith, k))
  where
    by : (z x y a b : ℕ) → a ≡ z + x → b ≡ z + y → nat_lt x y ≡ nat_lt a b
    by z x y a b e f = grind (arith, nat_tests)

pub same_digit : (c : ℕ) (vs ws : List ℕ) → length vs ≡ length ws → nat_lt (number vs) (number ws) ≡ nat_lt (number (c ∷ vs)) (number (c ∷ ws))
unfolding number
same_digit c vs ws l = same_front (0 * 10 + (c - 48)) vs ws l

-- a greater number in front decides
front_less : (n m : ℕ) (vs ws : List ℕ) → Digits vs → length vs ≡ length ws → n < m → number_after n vs < number_after m ws
front_less n m vs ws d l lt =
    let h = number_after_most n vs d in
    let k = number_after_least m ws in
    let q : (n + 1) * 10 ^ length vs ≤ m * 10 ^ length vs = mul-le-mul_right (10 ^ length vs) (let j : n + 1 ≤ m = omega (arith, lt) in j) in
    let e : m * 10 ^ length vs ≡ m * 10 ^ length ws = ap (λ (j : ℕ). m * 10 ^ j) l in
    omega (arith, h, k, q, e)

pub other_digit : (c d : ℕ) (vs ws : List ℕ) → is_ascii_digit c ≡ true → is_ascii_digit d ≡ true → Digits vs → Digits ws → length vs ≡ length ws → (c == d) ≡ false
    → nat_lt c d ≡ nat_lt (number (c ∷ vs)) (number (d ∷ ws))
unfolding number
other_digit c d vs ws i j dv dw l e = by (nat_lt c d) refl
  where
    by : (b : Bool) → nat_lt c d ≡ b → b ≡ nat_lt (number_after (0 * 10 + (c - 48)) vs) (number_after (0 * 10 + (d - 48)) ws)
    by true lt = let h = front_less (0 * 10 + (c - 48)) (0 * 10 + (d - 48)) vs ws dv l (let a = digit_is c i in let b = digit_is d j in grind (arith, nat_tests)) in grind (arith, nat_tests)
    by false ge = let h = front_less (0 * 10 + (d - 48)) (0 * 10 + (c - 48)) ws vs dw (sym l) (let a = digit_is c i in let b = digit_is d j in grind (arith, nat_tests)) in grind (arith, nat_tests)

less_first : (c d : ℕ) (vs ws : List ℕ) → is_ascii_digit c ≡ true → is_ascii_digit d ≡ true → Digits vs → Digits ws → length vs ≡ length ws
    → is_lt (slice_cmp nat_cmp vs ws) ≡ nat_lt (number vs) (number ws) → is_lt (ordering_then (nat_cmp c d) (slice_cmp nat_cmp vs ws)) ≡ nat_lt (number (c ∷ vs)) (number (d ∷ ws))
less_first c d vs ws i j dv dw k again = by (nat_lt c d) (c == d) refl refl
  where
    by : (a b : Bool) → nat_lt c d ≡ a → (c == d) ≡ b → is_lt (ordering_then (cond a Less (cond b Equal Greater)) (slice_cmp nat_cmp vs ws)) ≡ nat_lt (number (c ∷ vs)) (number (d ∷ ws))
    by true b lt e = sym lt ∙ other_digit c d vs ws i j dv dw k (grind (arith, nat_tests))
    by false true ge e = let x : c ≡ d = grind (arith, nat_tests) in again ∙ same_digit c vs ws k ∙ ap (λ (j : ℕ). nat_lt (number (c ∷ vs)) (number (j ∷ ws))) x
    by false false ge e = sym ge ∙ other_digit c d vs ws i j dv dw k e

pub digits_less : (vs ws : List ℕ) → list_all is_ascii_digit vs ≡ true → list_all is_ascii_digit ws ≡ true → length vs ≡ length ws
    → is_lt (slice_cmp nat_cmp vs ws) ≡ nat_lt (number vs) (number ws)
unfolding number
digits_less [] [] d e l = refl
digits_less [] (c ∷ cs) d e l = absurd (omega (arith, l))
digits_less (c ∷ cs) [] d e l = absurd (omega (arith, l))
digits_less (c ∷ vs) (d ∷ ws) dv dw l =
    let v = both_true (is_ascii_digit c) (list_all is_ascii_digit vs) dv in
    let w = both_true (is_ascii_digit d) (list_all is_ascii_digit ws) dw in
    let k : length vs ≡ length ws = omega (arith, l) in
    less_first c d vs ws v.0 w.0 v.1 w.1 k (digits_less vs ws v.1 w.1 k)

pub plain_digits : (w : List ℕ) → is_plain w ≡ true → list_all is_ascii_digit w ≡ true
plain_digits w p = (both_true (not (length w == 0)) (list_all is_ascii_digit w) (both_true (is_digits w) (not (slice_index w 0 == 48) || (length w == 1)) p).0).1

-- n digits without a zero at their front are a number of n digits
plain_least : (w : List ℕ) → is_plain w ≡ true → 1 < length w → 10 ^ (length w - 1) ≤ number w
unfolding number
plain_least [] p l = absurd (omega (arith, l))
plain_least (c ∷ cs) p l =
    let d = both_true (is_ascii_digit c) (list_all is_ascii_digit cs) (plain_digits (c ∷ cs) p) in
    let i = digit_is c d.0 in
    let z = (both_true (is_digits (c ∷ cs)) (not (c == 48) || (length (c ∷ cs) == 1)) p).1 in
    let h = number_after_least (0 * 10 + (c - 48)) cs in
    let f : 49 ≤ c = grind (arith, nat_tests) in
    let q : 1 * 10 ^ length cs ≤ (0 * 10 + (c - 48)) * 10 ^ length cs = mul-le-mul_right (10 ^ length cs) (let j : 1 ≤ 0 * 10 + (c - 48) = omega (arith, f) in j) in
    let s : length (c ∷ cs) - 1 ≡ length cs = omega arith in
    rw s (omega (arith, h, q))

digits_most : (w : List ℕ) → Digits w → number w < 10 ^ length w
unfolding number
digits_most w d = let h = number_after_most 0 w d in omega (arith, h)

-- of more digits, a greater number
pub more_digits : (v w : List ℕ) → is_plain v ≡ true → is_plain w ≡ true → length v < length w → number v < number w
more_digits v w p q l =
    let h = digits_most v (plain_digits v p) in
    let k = plain_least w q (let n = some_digit v p in omega (arith, n, l)) in
    let t : length v ≤ length w - 1 = omega (arith, l) in
    let e : 10 ^ length v ≤ 10 ^ (length w - 1) = pow-le-pow_right (lit< tt) t in
    omega (arith, h, k, e)
  where
    some_digit : (v : List ℕ) → is_plain v ≡ true → 1 ≤ length v
    some_digit [] p = cc
    some_digit (c ∷ cs) p = omega arith

pub longer : (v w : List ℕ) → is_plain v ≡ true → is_plain w ≡ true → (length v == length w) ≡ false → nat_lt (length v) (length w) ≡ nat_lt (number v) (number w)
longer v w p q e = by (nat_lt (length v) (length w)) refl
  where
    by : (b : Bool) → nat_lt (length v) (length w) ≡ b → b ≡ nat_lt (number v) (number w)
    by true lt = let h = more_digits v w p q (grind (arith, nat_tests)) in grind (arith, nat_tests)
    by false ge = let h = more_digits w v q p (grind (arith, nat_tests)) in grind (arith, nat_tests)

-- the same number has the same digits
same_digit_first : (c d : ℕ) (vs ws : List ℕ) → is_ascii_digit c ≡ true → is_ascii_digit d ≡ true → Digits vs → Digits ws → length vs ≡ length ws → number (c ∷ vs) ≡ number (d ∷ ws)
    → (number vs ≡ number ws → vs ≡ ws) → (b : Bool) → (c == d) ≡ b → c ∷ vs ≡ d ∷ ws
same_digit_first c d vs ws i j dv dw k n again true e =
    let x : c ≡ d = grind (arith, nat_tests) in
    let m : number (c ∷ vs) ≡ number (c ∷ ws) = n ∙ ap (λ (j : ℕ). number (j ∷ ws)) (sym x) in
    let s : nat_lt (number vs) (number ws) ≡ nat_lt (number (c ∷ vs)) (number (c ∷ ws)) = same_digit c vs ws k in
    let t : nat_lt (number ws) (number vs) ≡ nat_lt (number (c ∷ ws)) (number (c ∷ vs)) = same_digit c ws vs (sym k) in
    ap (λ (j : ℕ). j ∷ vs) x ∙ ap (λ (js : List ℕ). d ∷ js) (again (grind (arith, nat_tests)))
same_digit_first c d vs ws i j dv dw k n again false e =
    let s = other_digit c d vs ws i j dv dw k e in
    let t = other_digit d c ws vs j i dw dv (sym k) (grind (arith, nat_tests)) in
    absurd (grind (arith, nat_tests))

same_digits : (vs ws : List ℕ) → Digits vs → Digits ws → length vs ≡ length ws → number vs ≡ number ws → vs ≡ ws
same_digits [] [] d e l n = refl
same_digits [] (c ∷ cs) d e l n = absurd (omega (arith, l))
same_digits (c ∷ cs) [] d e l n = absurd (omega (arith, l))
same_digits (c ∷ vs) (d ∷ ws) dv dw l n =
    let v = both_true (is_ascii_digit c) (list_all is_ascii_digit vs) dv in
    let w = both_true (is_ascii_digit d) (list_all is_ascii_digit ws) dw in
    let k : length vs ≡ length ws = omega (arith, l) in
    same_digit_first c d vs ws v.0 w.0 v.1 w.1 k n (same_digits vs ws v.1 w.1 k) (c == d) refl

pub same_word : (v w : List ℕ) → is_plain v ≡ true → is_plain w ≡ true → number v ≡ number w → v ≡ w
same_word v w p q n = by (length v == length w) refl
  where
    by : (b : Bool) → (length v == length w) ≡ b → v ≡ w
    by true e = same_digits v w (plain_digits v p) (plain_digits w q) (grind (arith, nat_tests)) n
    by false e =
        let s = longer v w p q e in
        let t = longer w v q p (grind (arith, nat_tests)) in
        absurd (grind (arith, nat_tests))
