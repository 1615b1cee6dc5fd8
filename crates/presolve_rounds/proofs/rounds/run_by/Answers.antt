use Rattle.std.proofs.Common.{ap, ◌∙◌}
use Rattle.place_laws.specs.Choosing.{all_around}
use Rattle.presolve_rounds.proofs.Running.{all_have}
use Rattle.presolve_rounds.proofs.rounds.run_by.Goals as goal

pub run_from-requires-clause-sorted : goal.run_from-requires-clause-sorted
run_from-requires-clause-sorted g c = (all_have c.args.book.now c.in_ok-ids.ids (c.in_ok-ids.ensures ∙ ap all_around c.problem.ensures)).0

pub run_from-requires-clause-each : goal.run_from-requires-clause-each
run_from-requires-clause-each g c = (all_have c.args.book.now c.in_ok-ids.ids (c.in_ok-ids.ensures ∙ ap all_around c.problem.ensures)).1
