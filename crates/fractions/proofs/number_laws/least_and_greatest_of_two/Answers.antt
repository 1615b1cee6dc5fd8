use Rattle.fractions.proofs.MinMaxLaws.{min_ℚ_one, min_ℚ-≤_left, min_ℚ-≤_right, max_ℚ_one, ≤ℚ-max_ℚ_left, ≤ℚ-max_ℚ_right, abs_ℚ_one, abs_ℚ_pos, abs_ℚ-+ℚ, abs_ℚ-*ℚ}
use Rattle.fractions.proofs.number_laws.least_and_greatest_of_two.Goals as goal

pub returns : goal.returns
returns c = record {
  less_one = min_ℚ_one;
  less_left = min_ℚ-≤_left;
  less_right = min_ℚ-≤_right;
  greater_one = max_ℚ_one;
  greater_left = ≤ℚ-max_ℚ_left;
  greater_right = ≤ℚ-max_ℚ_right;
  distance_one = abs_ℚ_one;
  distance_not_negative = abs_ℚ_pos;
  distance_of_sum = abs_ℚ-+ℚ;
  distance_of_product = abs_ℚ-*ℚ;
}
