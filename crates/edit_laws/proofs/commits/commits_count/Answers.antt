use Rattle.edit_laws.proofs.Raising.{counted_committed}
use Rattle.edit_laws.proofs.commits.commits_count.Goals as goal

pub returns : goal.returns
returns c = λ p es a s h. counted_committed p es s h a
