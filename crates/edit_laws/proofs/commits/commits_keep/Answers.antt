use Rattle.edit_laws.proofs.Raising.{committed_sparse, untouched_committed}
use Rattle.edit_laws.proofs.Committed.{size_committed, writable_committed}
use Rattle.edit_laws.proofs.commits.commits_keep.Goals as goal

pub returns-clause-sparse : goal.returns-clause-sparse
returns-clause-sparse c = committed_sparse

pub returns-clause-size : goal.returns-clause-size
returns-clause-size c = size_committed

pub returns-clause-writable : goal.returns-clause-writable
returns-clause-writable c = writable_committed

pub returns-clause-untouched : goal.returns-clause-untouched
returns-clause-untouched c = λ p es a s h n. untouched_committed p es s h a n
