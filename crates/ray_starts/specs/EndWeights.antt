-- The weights of a column's bounds in an activity of a row: the size of its entry a, at the bound that gives the row that activity.
use Rattle.std.specs.Prelude.{if◌then◌else◌}
use Rattle.fractions.specs.Number.{Number, zero_ℚ, neg_ℚ}
use Rattle.fractions.specs.Compare.{lt_ℚ}
use Rattle.row_spans.specs.declared.span.Extreme.{Extreme}
use Rattle.row_spans.specs.declared.span.Extreme.TheVariants.{Least, Greatest}

abbrev pub lower_weight : Extreme → Number → Number
lower_weight Least a = if lt_ℚ zero_ℚ a then a else zero_ℚ
lower_weight Greatest a = if lt_ℚ zero_ℚ a then zero_ℚ else neg_ℚ a

abbrev pub upper_weight : Extreme → Number → Number
upper_weight Least a = if lt_ℚ zero_ℚ a then zero_ℚ else neg_ℚ a
upper_weight Greatest a = if lt_ℚ zero_ℚ a then a else zero_ℚ
