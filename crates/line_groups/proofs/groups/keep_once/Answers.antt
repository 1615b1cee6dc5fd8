use Rattle.line_groups.proofs.Tables.{kept_once}
use Rattle.line_groups.proofs.groups.keep_once.Goals as goal

pub returns : goal.returns
returns c = kept_once c.args.numbers.now.items c.sort_unstable.new.self.items c.dedup.new.self.items c.sort_unstable.ensures.permutation c.dedup.ensures.filtered
