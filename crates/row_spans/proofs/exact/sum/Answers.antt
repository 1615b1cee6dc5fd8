use Rattle.row_spans.proofs.Rooms.{room, sum_fits-is}
use Rattle.row_spans.proofs.exact.sum.Goals as goal

pub returns : goal.returns
returns c = room _ _ _ (sum_fits-is _ _) c.add.ensures.value c.add.ensures.fits
