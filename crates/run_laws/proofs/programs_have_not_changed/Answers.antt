use Rattle.round_laws.proofs.Numbers.{never_changed}
use Rattle.run_laws.proofs.programs_have_not_changed.Goals as goal

pub returns : goal.returns
returns c = never_changed
