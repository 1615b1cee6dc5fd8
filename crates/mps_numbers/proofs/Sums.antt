-- The test of the steps of a sum.
use Rattle.std.proofs.Common.{◌≡◌, ℕ, ℤ, Bool, true, false, ◌↔◌, Ok, Err, arith, refl, sym, ap, ◌∙◌}
use Rattle.std.proofs.lemmas.Bool.{false≢true}
use Rattle.std.specs.Prelude.{Result, IsErr}
use Rattle.fractions.specs.declared.Past.{Past}
use Rattle.std.proofs.lemmas.Bool.Decides.{nat_tests}
use Rattle.fractions.specs.Number.{Number, ◌+ℚ◌}
use Rattle.fractions.specs.FracWords.{StepsFit, SumFits}
use Rattle.fractions.specs.declared.Numbers.{Numbers}
use Rattle.number_texts.specs.Read.{is_taken}
use Rattle.mps_profile.specs.Sides.{steps_fit, sum_fits}
use Rattle.mps_numbers.specs.Ranges.{sum_in}

steps-fit : (a : ℤ) (b : ℕ) (c : ℤ) (d : ℕ) → steps_fit a b c d ≡ true → StepsFit a b c d
steps-fit a b c d e = record { left = grind (arith, nat_tests); right = grind (arith, nat_tests); sum = grind (arith, nat_tests); under = grind (arith, nat_tests) }

fit-steps : (a : ℤ) (b : ℕ) (c : ℤ) (d : ℕ) → StepsFit a b c d → steps_fit a b c d ≡ true
fit-steps a b c d h = let l = h.left in let r = h.right in let s = h.sum in let u = h.under in grind (arith, nat_tests)

pub sum_fits-is : (p q : Number) → (sum_fits p q ≡ true) ↔ SumFits p q
unfolding sum_fits
sum_fits-is p q = (steps-fit _ _ _ _, fit-steps _ _ _ _)

pub sum_in-past : (numbers : Numbers) (p q : Number) → (SumFits p q → ⊥) → sum_in numbers p q ≡ Err (record {})
sum_in-past numbers p q h = by (sum_fits p q) refl
  where
    by : (b : Bool) → sum_fits p q ≡ b → sum_in numbers p q ≡ Err (record {})
    by true e = absurd (h ((sum_fits-is p q).0 e))
    by false e = rw e refl

pub sum_in-taken : (numbers : Numbers) (p q : Number) → SumFits p q → is_taken numbers (p +ℚ q) ≡ true → sum_in numbers p q ≡ Ok (p +ℚ q)
sum_in-taken numbers p q h e = rw ((sum_fits-is p q).1 h, e) refl

pub sum_in-err : (numbers : Numbers) (p q : Number) (r : Result Number Past) → IsErr r → (SumFits p q → false ≡ true) → r ≡ sum_in numbers p q
sum_in-err numbers p q (Ok x) e h = absurd (false≢true e)
sum_in-err numbers p q (Err x) e h = sym (sum_in-past numbers p q (λ s. absurd (false≢true (h s))))

pub sum_in-ok : (numbers : Numbers) (p q s : Number) → s ≡ p +ℚ q → SumFits p q → is_taken numbers s ≡ true → Ok s ≡ sum_in numbers p q
sum_in-ok numbers p q s e h t = ap (λ (x : Number). Ok x) e ∙ sym (sum_in-taken numbers p q h (ap (is_taken numbers) (sym e) ∙ t))
