use Rattle.std.proofs.Common.{refl}
use Rattle.lp_gen.proofs.Drawing.{state_here}
use Rattle.lp_gen.proofs.columns.draw_column.Goals as goal

pub returns-clause-state : goal.returns-clause-state
returns-clause-state c = state_here c.args.draws.now 1 6 7 c.draw.new.self c.draw_terms.new.draws c.draw.ensures.state c.in_ok-terms.ensures.state refl
