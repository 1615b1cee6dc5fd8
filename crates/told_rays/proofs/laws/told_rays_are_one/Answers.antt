use Rattle.told_rays.proofs.OneRay.{says_more, stops_same, told_or_stopped, told_same}
use Rattle.told_rays.proofs.laws.told_rays_are_one.Goals as goal

pub returns-clause-text : goal.returns-clause-text
returns-clause-text c = told_same

pub returns-clause-stopped : goal.returns-clause-stopped
returns-clause-stopped c = stops_same

pub returns-clause-apart : goal.returns-clause-apart
returns-clause-apart c = told_or_stopped

pub returns-clause-printed : goal.returns-clause-printed
returns-clause-printed c = says_more
