use Rattle.std.proofs.Common.{rules, ◌≡◌, [], ◌∷◌, ◌++◌}
use Rattle.problem_commits.proofs.GivingBack.{run_taken, taking_step}
use Rattle.problem_commits.proofs.entries.take_run.Goals as goal

pub loop-term-preserved : goal.loop-term-preserved
loop-term-preserved c =
    let pushed : c.push.new.self.items ≡ c.loop-term.terms.items ++ c.in-Some.term ∷ [] = search rules in
    taking_step c.args.column c.args.terms.now.items c.args.edits.now c.loop-term.terms.items c.push.new.self.items c.loop-term.last c.loop-term.rest.now c.in-Some.after.now c.in-Some.term c.loop-term.invariant
    c.in-Some.ensures.edit c.in-Some.ensures.behind pushed

pub returns-clause-run : goal.returns-clause-run
returns-clause-run c = run_taken c.args.column c.args.terms.now.items c.args.edits.now c.loop-term.terms.items c.loop-term.last c.loop-term.rest.now c.loop-term.invariant (search rules)
