use Rattle.parallel_column_rules.proofs.EntryWalks.{number_none, number_some}
use Rattle.parallel_column_rules.proofs.walks.first_number.Goals as goal

pub returns-in-empty : goal.returns-in-empty
returns-in-empty c = number_none c.args.lines.now c.args.entries.now c.from_live.result.now c.from_live.ensures c.in-empty.len_below

pub returns-in-len1-up : goal.returns-in-len1-up
returns-in-len1-up c = number_some c.args.lines.now c.args.entries.now c.from_live.result.now c.term-item.result c.from_live.ensures c.in-len1-up.len_at_least c.term-item.is
