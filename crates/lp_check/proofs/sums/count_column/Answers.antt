use Rattle.lp_check.proofs.Counting.{counting_more, counting_all}
use Rattle.lp_check.proofs.sums.count_column.Goals as goal

pub loop-entry-preserved : goal.loop-entry-preserved
loop-entry-preserved g c = λ i a x l ea ex h.
    counting_more g.T.Exact.number g.T.Exact.room c.args.entries.now c.loop-entry.entry-index c.args.column a x i c.loop-entry.sums c.count_entry.new.sums c.entry-item.result (g.T.Exact.number c.args.number.now)
    c.loop-entry-test.true c.entry-item.is (rw c.loop-entry.auto.sums l) ex c.in_ok-count_entry.ensures.own c.count_entry.ensures.others (c.loop-entry.invariant i a x l ea ex h)

pub returns : goal.returns
returns g c = λ i a x l ea ex h. counting_all g.T.Exact.number g.T.Exact.room g.met.T.Exact.adds_nothing c.args.entries.now c.loop-entry.entry-index c.args.column a x i _ c.loop-entry-test.false (c.loop-entry.invariant i a x l ea ex h)
