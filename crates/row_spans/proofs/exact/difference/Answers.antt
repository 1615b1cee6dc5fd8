use Rattle.row_spans.proofs.Rooms.{room, sum_fits-is}
use Rattle.row_spans.proofs.exact.difference.Goals as goal

pub returns : goal.returns
returns c = room _ _ _ (sum_fits-is _ _) c.sub.ensures.value c.sub.ensures.fits
