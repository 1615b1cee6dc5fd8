use Rattle.problem_model.specs.Parts.{contents_of}
use Rattle.problem_commits.proofs.Changed.{other_tested}
use Rattle.problem_commits.proofs.raises.has_changed.Goals as goal

pub returns-in-Whole : goal.returns-in-Whole
returns-in-Whole c = other_tested c.holds.result c.args.note.now.held c.in-Whole.contents (contents_of c.args.problem.now c.args.note.now.part) c.in-Whole.is c.holds.ensures
