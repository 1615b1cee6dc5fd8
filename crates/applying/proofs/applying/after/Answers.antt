use Rattle.applying.proofs.applying.after.Goals as goal

pub commit_prepared-requires : goal.commit_prepared-requires
commit_prepared-requires c = (c.args.numbers, c.args.reduction, (c.requires, c.in_ok-change.ensures))

pub returns-clause-writable : goal.returns-clause-writable
returns-clause-writable c = c.commit_prepared.ensures.writable c.args.numbers c.args.reduction (c.requires, c.in_ok-change.ensures)
