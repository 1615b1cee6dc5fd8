use Rattle.dual_rules.proofs.SidesOfBoth.{sides_of_both_named}
use Rattle.dual_rules.proofs.dominated_column.add_sides.Goals as goal

pub returns : goal.returns
returns c = sides_of_both_named c.args.problem.now c.entries_if_live-first.result.now c.entries_if_live-second.result.now _ _ c.args.parts.now.items c.add_sides_of.new.parts.items c.add_sides_besides.new.parts.items
    c.entries_if_live-first.ensures.named c.entries_if_live-second.ensures.named c.in_ok-add_sides_of.ensures c.in_ok-add_sides_besides.ensures
