use Rattle.std.proofs.Common.{sym, ◌∙◌}
use Rattle.fractions.proofs.GcdSteps.{no_fives, less_of_fives, gcd_divides, gcd_comm}
use Rattle.fractions.proofs.divisor.odd_gcd.Goals as goal

pub returns-then-a-ne0 : goal.returns-then-a-ne0
returns-then-a-ne0 c = sym (no_fives c.args.a c.args.b c.if-a-ne0.true (c.is_power_of_five.ensures c.if-is_power_of_five.true))

pub returns-then-is_power_of_five-2 : goal.returns-then-is_power_of_five-2
returns-then-is_power_of_five-2 c = c.min.ensures ∙ sym (less_of_fives c.args.a c.args.b (c.is_power_of_five-then-is_power_of_five.ensures c.if-is_power_of_five-2.true) (c.is_power_of_five.ensures c.if-is_power_of_five.true))

pub returns-then-a-b-eq0 : goal.returns-then-a-b-eq0
returns-then-a-b-eq0 c = sym (gcd_divides c.args.a c.args.b c.if-a-b-eq0.true)

pub returns-then-b-a-eq0 : goal.returns-then-b-a-eq0
returns-then-b-a-eq0 c = sym (gcd_comm c.args.a c.args.b ∙ gcd_divides c.args.b c.args.a c.if-b-a-eq0.true)
