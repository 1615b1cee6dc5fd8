use Rattle.std.proofs.Common.{rules, drop}
use Rattle.problem_commits.proofs.Lefts.{never_left}
use Rattle.problem_commits.proofs.contents.live_entries_are.Goals as goal

pub returns-in-None : goal.returns-in-None
returns-in-None c = ((λ t. search rules), λ same. absurd (never_left c.args.others.now c.loop-rest.rest.now (drop 1 c.loop-rest.rest.now) c.loop-rest.left.now c.first-item.result (search rules) c.in-None.ensures (c.loop-rest.invariant.1 same)))
