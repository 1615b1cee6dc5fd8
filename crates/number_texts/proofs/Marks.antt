-- Which bytes a number's text has none of.
use Rattle.std.proofs.Common.{◌≡◌, ℕ, zero, suc, ◌*◌, ◌/◌, ◌%◌, ◌^◌, ◌<◌, ℤ, pos, negsuc, nat_abs, Bool, true, List, [], ◌∷◌, Option, Some, None, arith, refl, mod-lt, div-le_self}
use Rattle.std.specs.Prelude.{not}
use Rattle.std.specs.Char.{is_ascii_digit}
use Rattle.std.specs.Fmt.{decimal}
use Rattle.fractions.specs.Number.{Number}
use Rattle.fractions.specs.Lowest.{over_of, under_of, Fits}
use Rattle.fractions.specs.Places.{place_of}
use Rattle.fractions.proofs.Powers.{power_positive}
use Rattle.fractions.proofs.Placing.{place_of-room}
use Rattle.number_texts.specs.Written.{last_digits, with_point, sign_of, size_text, written_by, written}
use Rattle.number_texts.proofs.Cutting.{None_pass, None_pass-append, digits-none, decimal-digits, last_digits-digits}

-- a mark that is no digit, no minus, no point and no slash
pub record IsMark (p : ℕ → Bool) : Type 0 where
  pub digit : (c : ℕ) → is_ascii_digit c ≡ true → not (p c) ≡ true
  pub minus : not (p 45) ≡ true
  pub point : not (p 46) ≡ true
  pub slash : not (p 47) ≡ true

front : (p : ℕ → Bool) (c : ℕ) (xs : List ℕ) → not (p c) ≡ true → None_pass p xs → None_pass p (c ∷ xs)
front p c xs e h = rw (e, h) refl

pub decimal-marks : (p : ℕ → Bool) → IsMark p → (n : ℕ) → n < 10 ^ 64 → None_pass p (decimal n)
decimal-marks p m n h = digits-none p m.digit (decimal n) (decimal-digits n h).0

point-marks : (p : ℕ → Bool) → IsMark p → (n k : ℕ) → n < 2 ^ 127 → None_pass p (with_point n k)
point-marks p m n zero h = decimal-marks p m n (omega arith)
point-marks p m n (suc j) h =
    let a = div-le_self n (10 ^ suc j) in
    None_pass-append p (decimal (n / 10 ^ suc j)) (46 ∷ last_digits (suc j) (n % 10 ^ suc j)) (decimal-marks p m (n / 10 ^ suc j) (omega arith))
    (front p 46 (last_digits (suc j) (n % 10 ^ suc j)) m.point (digits-none p m.digit (last_digits (suc j) (n % 10 ^ suc j)) (last_digits-digits (suc j) (n % 10 ^ suc j) (mod-lt n (power_positive (suc j)))).0))

size-marks : (p : ℕ → Bool) → IsMark p → (n d : ℕ) (o : Option ℕ) → place_of n d ≡ o → n < 2 ^ 127 → d < 2 ^ 127 → None_pass p (size_text n d o)
size-marks p m n d None e h k = None_pass-append p (decimal n) (47 ∷ decimal d) (decimal-marks p m n (omega arith)) (front p 47 (decimal d) m.slash (decimal-marks p m d (omega arith)))
size-marks p m n d (Some k) e h l = point-marks p m (n * (10 ^ k / d)) k (place_of-room n d k e).1

sign-marks : (p : ℕ → Bool) → IsMark p → (z : ℤ) → None_pass p (sign_of z)
sign-marks p m (pos n) = refl
sign-marks p m (negsuc n) = front p 45 [] m.minus refl

pub written-marks : (p : ℕ → Bool) → IsMark p → (q : Number) → Fits q → None_pass p (written q)
unfolding written written_by
written-marks p m q h =
    None_pass-append p (sign_of (over_of q)) (size_text (nat_abs (over_of q)) (under_of q) (place_of (nat_abs (over_of q)) (under_of q)))
    (sign-marks p m (over_of q)) (size-marks p m (nat_abs (over_of q)) (under_of q) (place_of (nat_abs (over_of q)) (under_of q)) refl h.over h.under)
