use Rattle.run_report.proofs.Holding.{stays, why_held}
use Rattle.run_report.proofs.look.answer.Goals as goal

pub apply-requires : goal.apply-requires
apply-requires c = record { enabled = c.requires.enabled }

pub returns-in-NoMemory-clause-book : goal.returns-in-NoMemory-clause-book
returns-in-NoMemory-clause-book c = stays c.args.book.now c.apply.new.self _ c.args.instance c.apply.result c.requires c.apply.ensures.outcome c.apply.ensures.left

pub returns : goal.returns
returns c = record {
  book = stays c.args.book.now c.apply.new.self _ c.args.instance c.apply.result c.requires c.apply.ensures.outcome c.apply.ensures.left;
  why = why_held c.args.book.now _ c.args.instance c.apply.result c.requires c.in_default.not-NoMemory c.apply.ensures.outcome;
}
