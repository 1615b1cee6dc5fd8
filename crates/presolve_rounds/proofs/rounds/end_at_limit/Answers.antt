use Rattle.std.proofs.Common.{◌≡◌, [], sym, ◌∙◌, subst}
use Rattle.presolve_model.specs.Ordered.{enabled_verdicts}
use Rattle.presolve_model.specs.Tallies.{open_on}
use Rattle.presolve_rounds.specs.Running.{IsFirst}
use Rattle.presolve_rounds.proofs.Running.{full_undecided}
use Rattle.presolve_rounds.proofs.rounds.end_at_limit.Goals as goal

pub returns-in-None-clause-end : goal.returns-in-None-clause-end
returns-in-None-clause-end c =
    let none : enabled_verdicts (open_on c.tally.result.now) c.problem.result.now ≡ [] = subst (IsFirst (enabled_verdicts (open_on c.tally.result.now) c.problem.result.now)) c.in-None.is c.in_ok-first_verdict.ensures in
    (full_undecided c.args.book.now ((λ t. enabled_verdicts (open_on (sym c.tally.ensures t)) (sym c.problem.ensures t)) ∙ none) c.requires.full c.stands.ensures.stands.within).1
