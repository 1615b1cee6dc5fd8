use Rattle.std.proofs.Common.{rules, ◌≡◌, [], ◌∷◌}
use Rattle.problem_commits.proofs.GivingBack.{top_first}
use Rattle.problem_commits.proofs.entries.first_run.Goals as goal

pub take_run-requires-clause-top : goal.take_run-requires-clause-top
take_run-requires-clause-top c =
    let pushed : c.push.new.self.items ≡ record { id = c.args.entry.now.row; value = c.args.entry.now.value } ∷ [] = search rules in
    λ t h. top_first c.push.new.self.items (record { id = c.args.entry.now.row; value = c.args.entry.now.value }) t pushed h
