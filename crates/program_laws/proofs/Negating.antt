-- Numbers and their negations can be written alike.
use Rattle.std.proofs.Common.{◌≡◌, zero, suc, ◌<◌, ◌^◌, ℤ, pos, negsuc, neg_ℤ, nat_abs, unsigned_abs, [], ◌∷◌, sym, refl, ap, ◌∙◌, subst}
use Rattle.fractions.specs.Ring.{ring, v, num, ◌:*◌, inv}
use Rattle.fractions.specs.Number.{Number, rational, zero_ℚ, neg_ℚ, of_ℤ, of_ℤ-neg_ℤ}
use Rattle.fractions.specs.Gcd.{gcd}
use Rattle.fractions.specs.Lowest.{Fits, over_of, under_of, under_of_positive, coprime_of, fraction-shown, ratio, ratio-is, IsLowest, over_of-ratio, under_of-ratio, neg_ℚ-ratio}
use Rattle.fractions.specs.Decimal.{HasPlaces}
use Rattle.fractions.specs.Decimal as decimals
use Rattle.fractions.specs.declared.Numbers.{Numbers}
use Rattle.fractions.specs.declared.Numbers.TheVariants.{Decimal, Fractions}
use Rattle.lp_model.specs.declared.program.Sense.{Sense}
use Rattle.lp_model.specs.declared.program.Sense.TheVariants.{Min, Max}
use Rattle.lp_model.specs.LinearProgram.{LinearProgram}
use Rattle.lp_model.specs.Writable.{WritableNumber}
use Rattle.lp_model.specs.Turning.{signed, minimizing}

size_turned : (z : ℤ) → nat_abs (neg_ℤ z) ≡ nat_abs z
size_turned (pos zero) = refl
size_turned (pos (suc n)) = refl
size_turned (negsuc n) = refl

digits_turned : (z : ℤ) → unsigned_abs (neg_ℤ z) ≡ unsigned_abs z
digits_turned (pos zero) = refl
digits_turned (pos (suc n)) = refl
digits_turned (negsuc n) = refl

pub twice : (q : Number) → neg_ℚ (neg_ℚ q) ≡ q
twice q = ring rational (q ∷ []) (inv (inv (v 0))) (v 0) refl

pub neg_zero : neg_ℚ zero_ℚ ≡ zero_ℚ
neg_zero = ring rational [] (inv (num (pos 0))) (num (pos 0)) refl

lowest_turned : (q : Number) → Fits q → IsLowest (neg_ℤ (over_of q)) (under_of q)
lowest_turned q h = record {
  over_fits = subst (λ n. n < 2 ^ 127) (sym (size_turned (over_of q))) h.over;
  under_fits = h.under;
  positive = under_of_positive q;
  coprime = ap (λ n. gcd n (under_of q)) (size_turned (over_of q)) ∙ coprime_of q;
}

turned_ratio : (q : Number) → ratio (neg_ℤ (over_of q)) (under_of q) ≡ neg_ℚ q
turned_ratio q = neg_ℚ-ratio (over_of q) (under_of q) (under_of_positive q) ∙ ap neg_ℚ (ratio-is (over_of q) (under_of q) (under_of_positive q) ∙ fraction-shown q)

pub Fits-neg : (q : Number) → Fits q → Fits (neg_ℚ q)
Fits-neg q h = let k = lowest_turned q h in record {
  over = subst (λ z. nat_abs z < 2 ^ 127) (sym (over_of-ratio (neg_ℤ (over_of q)) (under_of q) k) ∙ ap over_of (turned_ratio q)) k.over_fits;
  under = subst (λ n. n < 2 ^ 127) (sym (under_of-ratio (neg_ℤ (over_of q)) (under_of q) k) ∙ ap under_of (turned_ratio q)) k.under_fits;
}

pub Decimal-neg : (q : Number) → decimals.Decimal q → decimals.Decimal (neg_ℚ q)
Decimal-neg q h = record {
  places = h.places;
  few = h.few;
  written = record {
    digits = neg_ℤ h.written.digits;
    small = subst (λ n. n < 2 ^ 127) (sym (digits_turned h.written.digits)) h.written.small;
    value = ring rational (q ∷ of_ℤ (pos (10 ^ h.places)) ∷ []) (inv (v 0) :* v 1) (inv (v 0 :* v 1)) refl ∙ ap neg_ℚ h.written.value ∙ sym (of_ℤ-neg_ℤ h.written.digits);
  };
}

pub writable_neg : (numbers : Numbers) (q : Number) → WritableNumber numbers q → WritableNumber numbers (neg_ℚ q)
writable_neg Decimal q h = (Fits-neg q h.0, Decimal-neg q h.1)
writable_neg Fractions q h = Fits-neg q h

pub writable_signed : (numbers : Numbers) (s : Sense) (q : Number) → WritableNumber numbers q → WritableNumber numbers (signed s q)
writable_signed numbers Min q h = h
writable_signed numbers Max q h = writable_neg numbers q h

-- ---- in the other sense, and back
pub signed_twice : (s : Sense) (q : Number) → signed s (signed s q) ≡ q
signed_twice Min q = refl
signed_twice Max q = twice q

pub signed_zero : (s : Sense) → signed s zero_ℚ ≡ zero_ℚ
signed_zero Min = refl
signed_zero Max = neg_zero

-- as it is minimized, a program has other costs and another constant
abbrev pub with_signs : Sense → LinearProgram → LinearProgram
with_signs s M = record M { costs = λ j. signed s (M.costs j); constant = signed s M.constant }

pub minimizing_signs : (s : Sense) (M : LinearProgram) → minimizing s M ≡ with_signs s M
minimizing_signs Min M = refl
minimizing_signs Max M = refl
