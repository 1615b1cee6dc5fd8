use Rattle.presolve_rounds.proofs.Running.{full_decided, full_enabled}
use Rattle.presolve_rounds.proofs.rounds.decide.Goals as goal

pub apply-requires : goal.apply-requires
apply-requires c = record { enabled = full_enabled c.args.book.now c.args.verdict c.requires.first }

pub returns : goal.returns
returns c =
    let d = full_decided c.args.book.now c.apply.new.self _ c.args.verdict c.apply.result c.requires.undecided c.requires.full c.requires.first c.in_default.not-NoMemory c.apply.ensures.outcome c.apply.ensures.left in
    record { book = d.2; ordered = d.0; decided = d.1 }
