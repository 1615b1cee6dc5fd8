use Rattle.fractions.specs.Comparisons.{le_ℚ-is, lt_ℚ-is, eq_ℚ-is, number_cmp_total}
use Rattle.fractions.proofs.number_laws.tests_decide_the_order.Goals as goal

pub returns : goal.returns
returns c = record { at_most = le_ℚ-is; below = lt_ℚ-is; equal = eq_ℚ-is; compared = number_cmp_total }
