use Rattle.fractions.specs.Division.{◌/ℚ◌}
use Rattle.line_groups.proofs.KeyLaws.{number_ok, number_past}
use Rattle.line_groups.proofs.keys.with_quotient.Goals as goal

pub returns-in-Ok : goal.returns-in-Ok
returns-in-Ok c = number_ok c.args.key c.with_parts.result (c.args.number.now /ℚ c.args.divisor.now) c.in-Ok.made c.quotient.result c.quotient.ensures c.in-Ok.is c.with_parts.ensures

pub returns-in-Err : goal.returns-in-Err
returns-in-Err c = number_past c.args.key c.mixed.result (c.args.number.now /ℚ c.args.divisor.now) c.quotient.result c.in-Err.field-0 c.quotient.ensures c.in-Err.is c.mixed.ensures
