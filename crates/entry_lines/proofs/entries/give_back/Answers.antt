use Rattle.std.proofs.Common.{◌∙◌}
use Rattle.entry_lines.proofs.Putting.{given_back-last, last_inside}
use Rattle.entry_lines.proofs.entries.give_back.Goals as goal

pub loop-last-preserved : goal.loop-last-preserved
loop-last-preserved c = record {
  same = given_back-last c.pop.new.self.items c.loop-last.left.items c.in-Some.last c.loop-last.lines.items c.exchange.new.lines.items c.in-Some.ensures.items c.exchange.ensures.lines ∙ c.loop-last.invariant.same;
  inside = last_inside c.pop.new.self.items c.loop-last.left.items c.in-Some.last c.loop-last.lines.items c.exchange.new.lines.items c.in-Some.ensures.items c.exchange.ensures.lines c.loop-last.invariant.inside;
}
