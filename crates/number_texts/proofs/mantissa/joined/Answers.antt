use Rattle.std.proofs.Common.{arith, ◌-◌}
use Rattle.number_texts.proofs.MantissaLaws.{joined_past}
use Rattle.number_texts.proofs.mantissa.joined.Goals as goal

pub returns-then-zeros-ge38 : goal.returns-then-zeros-ge38
returns-then-zeros-ge38 c = λ h. omega (arith, joined_past c.args.n c.args.zeros (c.args.digit - 48) (omega arith) c.if-zeros-ge38.true)
