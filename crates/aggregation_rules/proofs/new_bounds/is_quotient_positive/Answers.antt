use Rattle.std.proofs.Common.{◌∙◌, sym}
use Rattle.fractions.specs.Comparisons.{lt_ℚ-is}
use Rattle.fractions.specs.Number.{zero_ℚ}
use Rattle.aggregation_rules.proofs.Sign.{sign_by_positive, sign_by_negative}
use Rattle.aggregation_rules.proofs.new_bounds.is_quotient_positive.Goals as goal

pub returns-then-is_positive : goal.returns-then-is_positive
returns-then-is_positive c = c.is_positive-then-is_positive.ensures ∙ sign_by_positive c.args.number.now c.args.divisor.now ((lt_ℚ-is zero_ℚ c.args.divisor.now).0 (sym c.is_positive.ensures ∙ c.if-is_positive.true))

pub returns-else-is_positive : goal.returns-else-is_positive
returns-else-is_positive c = c.is_negative.ensures ∙ sign_by_negative c.args.number.now c.args.divisor.now (sym c.is_positive.ensures ∙ c.if-is_positive.false) c.requires
