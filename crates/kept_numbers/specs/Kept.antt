-- The number that a form of the code holds.
use Rattle.std.specs.Prelude.{◌+◌, Option, Some, None}
use Rattle.fractions.specs.Number.{Number, zero_ℚ}
use Rattle.fractions.specs.Lowest.{ratio}
use Rattle.kept_numbers.specs.declared.kept.Form.{Form}
use Rattle.kept_numbers.specs.declared.kept.Form.TheVariants.{Nothing, Whole, Quotient, Long}

abbrev pub number_of_form : Form → Option Number
number_of_form Nothing = None
number_of_form (Whole z) = Some (ratio z 1)
number_of_form (Quotient n k) = Some (ratio n (k + 1))
number_of_form (Long b) = Some b.value

-- 0 where there is none
abbrev pub number_or_zero : Option Number → Number
number_or_zero None = zero_ℚ
number_or_zero (Some q) = q
