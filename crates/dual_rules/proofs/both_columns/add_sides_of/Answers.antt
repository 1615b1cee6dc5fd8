use Rattle.dual_rules.proofs.SidesOfBoth.{named_more_at}
use Rattle.dual_rules.proofs.both_columns.add_sides_of.Goals as goal

pub loop-term-preserved : goal.loop-term-preserved
loop-term-preserved c = named_more_at c.args.problem.now c.args.entries.now c.loop-term.term-index c.term-item.result c.loop-term.parts.items c.add_if.new.parts.items _ c.is_row_live.result
    c.loop-term-test.true c.term-item.is c.is_row_live.ensures c.loop-term.invariant c.in_ok-add_if.ensures
