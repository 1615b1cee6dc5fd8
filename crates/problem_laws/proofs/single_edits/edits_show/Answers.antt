use Rattle.problem_laws.proofs.Single.{sparse_edited, shown_edited}
use Rattle.problem_laws.proofs.single_edits.edits_show.Goals as goal

pub returns-clause-sparse : goal.returns-clause-sparse
returns-clause-sparse c = sparse_edited

pub returns-clause-shown : goal.returns-clause-shown
returns-clause-shown c = shown_edited
