use Rattle.fractions.specs.Order.{≤ℚ_trans, ≤ℚ_antisym, ≤ℚ_cases, <ℚ-not, ≤ℚ-+ℚ, ≤ℚ-*ℚ}
use Rattle.fractions.specs.Signs.{≤ℚ-*ℚ_down}
use Rattle.fractions.proofs.Floors.{of_ℤ-≤}
use Rattle.fractions.proofs.number_laws.numbers_are_ordered.Goals as goal

pub returns : goal.returns
returns c = record {
  transitive = λ p q r h k. ≤ℚ_trans h k;
  antisymmetric = λ p q h k. ≤ℚ_antisym h k;
  total = ≤ℚ_cases;
  strict = λ p q h k. <ℚ-not h k;
  sums = λ p q r s h k. ≤ℚ-+ℚ h k;
  products = λ a p q h k. ≤ℚ-*ℚ a h k;
  turned = λ a p q h k. ≤ℚ-*ℚ_down a h k;
  whole = of_ℤ-≤;
}
