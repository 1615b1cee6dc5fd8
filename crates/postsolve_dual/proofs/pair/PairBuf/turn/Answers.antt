use Rattle.postsolve_dual.proofs.Pairs.{turned_is}
use Rattle.postsolve_dual.proofs.pair.PairBuf.turn.Goals as goal

pub returns-in-Max-clause-turned : goal.returns-in-Max-clause-turned
returns-in-Max-clause-turned g c = turned_is c.args.sense c.args.self.now c.self.inside.point c.self.inside.duals c.self.inside.reduced_costs c.negate.new.self c.negate-in-Max.new.self
    c.in-Max.is c.self.view_is c.negate.ensures.negated c.negate-in-Max.ensures.negated
