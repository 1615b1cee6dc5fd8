-- Digits of numbers of 64 bits, for which room is made.
use Rattle.std.proofs.Common.{ap, ap₂, ◌∙◌, ◌≡◌, ◌+◌, ◌≤◌, ◌<◌, ◌/◌, ◌%◌, ◌^◌, ◌++◌, ◌∷◌, [], ℕ, List, length, append_assoc, arith}
use Rattle.std.proofs.lemmas.List.{length-append}
use Rattle.std.proofs.lemmas.Fmt.{decimal_digit, decimal_step, length-decimal-le}
use Rattle.std.specs.Fmt.{decimal}

-- such a number has at most twenty digits
pub twenty_digits : (n : ℕ) → n < 2 ^ 64 → length (decimal n) ≤ 20
twenty_digits n h = length-decimal-le 20 n (omega arith) (omega arith) h

-- the digits of a number of two, and of one that has more
pub two_digits : (n : ℕ) → 10 ≤ n → n < 100 → decimal n ≡ (48 + n / 10) ∷ (48 + n % 10) ∷ []
two_digits n h l = decimal_step n h (omega arith) ∙ ap (λ (xs : List ℕ). xs ++ (48 + n % 10) ∷ []) (decimal_digit (n / 10) (omega arith))

pub two_more : (n : ℕ) → 100 ≤ n → n < 2 ^ 64 → decimal n ≡ decimal (n / 100) ++ (48 + n % 100 / 10) ∷ (48 + n % 100 % 10) ∷ []
two_more n h l =
    let tens : n / 10 % 10 ≡ n % 100 / 10 = omega arith in
    let ones : n % 10 ≡ n % 100 % 10 = omega arith in
    let rest : n / 10 / 10 ≡ n / 100 = omega arith in
    decimal_step n (omega arith) l
    ∙ ap (λ (xs : List ℕ). xs ++ (48 + n % 10) ∷ []) (decimal_step (n / 10) (omega arith) (omega arith))
    ∙ append_assoc (decimal (n / 10 / 10)) ((48 + n / 10 % 10) ∷ []) ((48 + n % 10) ∷ [])
    ∙ ap (λ (m : ℕ). decimal m ++ (48 + n / 10 % 10) ∷ (48 + n % 10) ∷ []) rest
    ∙ ap₂ (λ (x y : ℕ). decimal (n / 100) ++ (48 + x) ∷ (48 + y) ∷ []) tens ones

-- without its last two digits it has two digits less
pub two_digits_less : (n : ℕ) → 100 ≤ n → n < 2 ^ 64 → length (decimal n) ≡ length (decimal (n / 100)) + 2
two_digits_less n h l = ap length (two_more n h l) ∙ length-append (decimal (n / 100)) ((48 + n % 100 / 10) ∷ (48 + n % 100 % 10) ∷ [])

pub ruleset digits_laws = (twenty_digits, two_digits, two_digits_less, decimal_digit)
