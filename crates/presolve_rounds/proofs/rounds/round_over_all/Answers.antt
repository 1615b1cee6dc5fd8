use Rattle.std.proofs.Common.{ap, ◌∙◌, arith}
use Rattle.place_laws.specs.Choosing.{all_around}
use Rattle.round_marks.specs.Stamping.{stamps_of}
use Rattle.presolve_rounds.proofs.Running.{ready_first}
use Rattle.presolve_rounds.proofs.rounds.round_over_all.Goals as goal

pub round-requires-clause-ready : goal.round-requires-clause-ready
round-requires-clause-ready g c = ready_first c.args.book.now c.in_ok-stamps.stamps c.in_ok-ids.ids c.args.watch.now c.stands.ensures.stands (omega (arith, c.limit-limit.ensures, c.limit-limit.type_inv))
    (c.in_ok-stamps.ensures ∙ ap stamps_of c.problem.ensures) (c.in_ok-ids.ensures ∙ ap all_around c.problem-2.ensures) c.requires.forms

pub round-requires-clause-groups : goal.round-requires-clause-groups
round-requires-clause-groups g c = c.requires.groups
