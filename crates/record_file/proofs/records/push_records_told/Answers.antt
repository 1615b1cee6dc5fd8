use Rattle.record_file.proofs.ToldLines.{found, told_on}
use Rattle.record_file.proofs.records.push_records_told.Goals as goal

pub loop-place-preserved : goal.loop-place-preserved
loop-place-preserved c =
    told_on c.loop-place.out.items _ _ c.loop-place.place c.args.undos.now c.args.transactions.now _ _ (found c.args.undos.now c.loop-place.place _ c.loop-place-test.true c.index-undos-place.is) c.get.ensures c.in_ok-push_told.ensures c.loop-place.invariant
