use Rattle.fractions.specs.Signs.{*ℚ_pos, *ℚ_neg, *ℚ_pos_neg, *ℚ-zero, <ℚ-*ℚ, <ℚ-*ℚ_down, over-≤, over-≤_down}
use Rattle.fractions.proofs.number_laws.signs_of_products_and_quotients.Goals as goal

pub returns : goal.returns
returns c = record {
  alike = λ p q h k. *ℚ_pos h k;
  both_below = λ p q h k. *ℚ_neg h k;
  unlike = λ p q h k. *ℚ_pos_neg h k;
  no_product = *ℚ-zero;
  strict = λ a p q h k. <ℚ-*ℚ a h k;
  strict_turned = λ a p q h k. <ℚ-*ℚ_down a h k;
  quotients = λ a p q h k. over-≤ a h k;
  quotients_turned = λ a p q h k. over-≤_down a h k;
}
