use Rattle.std.proofs.Common.{◌∙◌}
use Rattle.opb_reader.proofs.Least.{goes_on}
use Rattle.opb_reader.proofs.faults.least_fault.Goals as goal

pub loop-word-preserved : goal.loop-word-preserved
loop-word-preserved c =
    goes_on c.loop-word.kind c.least-kind.result c.fault.result _ c.loop-word.is_after c.is_literal-is_after.result _ _ c.in-Some.word.now c.in-Some.ensures.first c.read_token-token.ensures c.fault.ensures c.least-kind.ensures
    c.is_literal-is_after.ensures
    ∙ c.loop-word.invariant
