use Rattle.edit_laws.proofs.Lists.{sparse_applied, size_applied, writable_applied, untouched_applied}
use Rattle.edit_laws.proofs.NumbersStay.{changes_applied}
use Rattle.edit_laws.proofs.edits.edits_keep.Goals as goal

pub returns-clause-sparse : goal.returns-clause-sparse
returns-clause-sparse c = sparse_applied

pub returns-clause-size : goal.returns-clause-size
returns-clause-size c = size_applied

pub returns-clause-writable : goal.returns-clause-writable
returns-clause-writable c = writable_applied

pub returns-clause-untouched : goal.returns-clause-untouched
returns-clause-untouched c = untouched_applied

pub returns-clause-numbers : goal.returns-clause-numbers
returns-clause-numbers c = λ p es a s h. changes_applied p es s h a
