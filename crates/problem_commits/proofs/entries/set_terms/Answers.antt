use Rattle.std.proofs.Common.{rules, ◌≡◌, [], ◌∷◌, ◌++◌}
use Rattle.problem_commits.proofs.GivingBack.{trail_more}
use Rattle.problem_commits.proofs.entries.set_terms.Goals as goal

pub returns-clause-trail : goal.returns-clause-trail
returns-clause-trail c =
    let pushed : c.push_reserved.new.self.items ≡ c.args.replaced.now.items ++ c.in_ok-before.before ∷ [] = search rules in
    λ p t. trail_more c.push_reserved.new.self.items c.args.replaced.now.items p c.args.problem.now c.set_entries.new.self c.in_ok-before.before pushed c.is_sparse.ensures c.in_ok-before.ensures.back t
