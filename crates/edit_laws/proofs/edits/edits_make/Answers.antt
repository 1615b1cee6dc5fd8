use Rattle.edit_laws.proofs.Lists.{shown_applied, offset_applied, flags_applied, applied_more}
use Rattle.edit_laws.proofs.edits.edits_make.Goals as goal

pub returns-clause-shown : goal.returns-clause-shown
returns-clause-shown c = shown_applied

pub returns-clause-offset : goal.returns-clause-offset
returns-clause-offset c = offset_applied

pub returns-clause-live : goal.returns-clause-live
returns-clause-live c = flags_applied

pub returns-clause-more : goal.returns-clause-more
returns-clause-more c = applied_more
