use Rattle.std.proofs.Common.{◌∙◌}
use Rattle.mps_assembly.proofs.Assembling.{program_is, named_along, objective_named}
use Rattle.mps_assembly.proofs.assembly.assemble.Goals as goal

pub define-requires-clause-objective : goal.define-requires-clause-objective
define-requires-clause-objective c = objective_named c.requires.named.0 c.args.told c.requires.named.1 c.args.parts.now c.requires.named.2 c.requires.named.3

pub new-requires : goal.new-requires
new-requires c =
    let made = c.in_ok-found.ensures c.requires.named.0 c.requires.named.1 c.requires.named.2 in
    named_along _ _ _ _ _ _ made.objective made.rows made.columns c.requires.named.3

pub returns : goal.returns
returns c = λ dialect cards are.
    let made = c.in_ok-found.ensures dialect cards are in
    c.new.ensures ∙ program_is c.sense_of-sense.ensures made.objective made.constant made.rows made.columns
