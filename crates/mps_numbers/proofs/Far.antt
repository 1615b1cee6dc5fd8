-- A number that is not negative is far where it is at least 10^20.
use Rattle.std.proofs.Common.{◌≡◌, ℕ, ◌*◌, ◌^◌, pos, Bool, true, false, leb, Option, Some, None, arith, sym, ◌∙◌, refl, true≢false}
use Rattle.std.specs.Prelude.{◌||◌}
use Rattle.std.proofs.lemmas.Bool.Decides.{nat_tests}
use Rattle.fractions.specs.Number.{Number, of_ℤ, zero_ℚ, neg_ℚ, ◌+ℚ◌, lift2}
use Rattle.fractions.specs.Order.{◌≤ℚ◌, ≤ℚ_trans, non_neg_ℚ}
use Rattle.fractions.specs.Compare.{le_ℚ}
use Rattle.fractions.specs.Comparisons.{le_ℚ-is}
use Rattle.fractions.specs.Scaled.{scaled}
use Rattle.number_texts.specs.Form.{Terms, number, up_of, down_of}
use Rattle.number_texts.specs.Reach.{reaches}
use Rattle.number_texts.proofs.ReachLaws.{le-scaled}
use Rattle.mps_profile.specs.Numerals.{is_far, is_far_form}

zero-scaled : (n u w : ℕ) → zero_ℚ ≤ℚ scaled (pos n) u w
zero-scaled n u w = (le_ℚ-is zero_ℚ (scaled (pos n) u w)).0 (le-scaled 0 n u w ∙ (let e : leb (0 * 10 ^ w) (n * 10 ^ u) ≡ true = grind (arith, nat_tests) in e))

below_zero : le_ℚ zero_ℚ (neg_ℚ (of_ℤ (pos (10 ^ 20)))) ≡ false
unfolding non_neg_ℚ ◌+ℚ◌ lift2 neg_ℚ of_ℤ
below_zero = refl

not_below : (q : Number) → zero_ℚ ≤ℚ q → le_ℚ q (neg_ℚ (of_ℤ (pos (10 ^ 20)))) ≡ false
not_below q h = by (le_ℚ q (neg_ℚ (of_ℤ (pos (10 ^ 20))))) refl
  where
    by : (b : Bool) → le_ℚ q (neg_ℚ (of_ℤ (pos (10 ^ 20)))) ≡ b → b ≡ false
    by true e = absurd (true≢false (sym ((le_ℚ-is zero_ℚ (neg_ℚ (of_ℤ (pos (10 ^ 20))))).1 (≤ℚ_trans h ((le_ℚ-is q (neg_ℚ (of_ℤ (pos (10 ^ 20))))).0 e))) ∙ below_zero))
    by false e = refl

or_false : (b : Bool) → b ≡ (b || false)
or_false true = refl
or_false false = refl

far-is : (q : Number) → zero_ℚ ≤ℚ q → le_ℚ (of_ℤ (pos (10 ^ 20))) q ≡ is_far q
far-is q h = rw (not_below q h) (or_false (le_ℚ (of_ℤ (pos (10 ^ 20))) q))

pub far_form : (o : Option Terms) → reaches 20 o ≡ is_far_form o
far_form None = refl
far_form (Some s) = far-is (scaled (pos (number s.digits)) (up_of s) (down_of s)) (zero-scaled (number s.digits) (up_of s) (down_of s))
