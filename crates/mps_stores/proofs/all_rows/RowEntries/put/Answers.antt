use Rattle.mps_stores.proofs.Adding.{put_at}
use Rattle.mps_stores.proofs.all_rows.RowEntries.put.Goals as goal

pub returns : goal.returns
returns c = put_at c.args.self.now.rows.items c.grow.new.self.rows.items c.args.row c.args.column c.args.value _ c.push.new.self c.in_ok-grow.ensures.same c.in_ok-grow.ensures.long c.index_mut.ensures.value c.in_ok-push.ensures c.requires
