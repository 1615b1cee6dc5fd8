use Rattle.column_rules.proofs.SoleEntries.{without_more}
use Rattle.column_rules.proofs.sole_entry.terms_without.Goals as goal

pub loop-term-preserved : goal.loop-term-preserved
loop-term-preserved c = without_more c.args.column c.args.terms.now c.loop-term.term-index c.term-item.result c.loop-term.items.items c.keep_other.new.items.items c.loop-term-test.true c.term-item.is c.loop-term.invariant c.in_ok-keep_other.ensures
