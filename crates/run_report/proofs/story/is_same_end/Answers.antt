use Rattle.run_report.proofs.Stepping.{same_end_told}
use Rattle.run_report.proofs.story.is_same_end.Goals as goal

pub returns : goal.returns
returns c = same_end_told c.args.one.now c.args.other.now c.is_same.result c.is_same.ensures
