use Rattle.opb_reader.proofs.Sums.{refused, step_past}
use Rattle.opb_reader.proofs.sides.left_of.Goals as goal

pub returns-in_err-left : goal.returns-in_err-left
returns-in_err-left c =
    refused c.from_residual.result _ _ c.from_residual.ensures.0
    (step_past c.args.side c.loop-number.left c.negated.result c.number-item.result c.args.numbers.now c.loop-number.number-index c.loop-number-test.true c.number-item.is c.loop-number.invariant.left c.negated.ensures
    c.in_err-left.ensures)
