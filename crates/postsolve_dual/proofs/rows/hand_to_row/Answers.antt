use Rattle.postsolve_dual.proofs.Pairs.{handed_is}
use Rattle.postsolve_dual.proofs.rows.hand_to_row.Goals as goal

pub returns-clause-lifted : goal.returns-clause-lifted
returns-clause-lifted g c = handed_is c.args.pair.now c.take_row.new.self c.set_dual.new.self _ _ _ _ _ _ _ _
    c.reduced_cost.ensures c.number_at-entry.ensures c.in_ok-change.ensures.value c.dual.ensures c.in_ok-dual.ensures.value
    c.take_row.ensures.point c.take_row.ensures.duals c.in_ok-take_row.ensures.costs
    c.set_dual.ensures.point c.set_dual.ensures.costs c.set_dual.ensures.duals
