use Rattle.std.proofs.Common.{arith}
use Rattle.std.proofs.lemmas.Bool.Decides.{nat_tests}
use Rattle.mps_reader.proofs.Texts.{at_end, without_end}
use Rattle.mps_reader.proofs.reading.read_lines.Goals as goal

pub returns-then-is_ended : goal.returns-then-is_ended
returns-then-is_ended c = at_end _ _ _ _ c.loop-rest.reader _ c.loop-rest.invariant.1 c.loop-rest.invariant.2 c.if-is_ended.ensures

pub returns-then-is_ended-2 : goal.returns-then-is_ended-2
returns-then-is_ended-2 c = at_end _ _ _ _ c.loop-rest.reader _ c.loop-rest.invariant.1 c.loop-rest.invariant.2 c.if-is_ended-2.ensures

pub returns : goal.returns
returns c = without_end _ _ _ _ c.loop-rest.reader _ c.loop-rest.invariant.1 c.loop-rest.invariant.2 (grind (arith, nat_tests, c.loop-rest-test.ensures)) c.if-is_ended-2.ensures
