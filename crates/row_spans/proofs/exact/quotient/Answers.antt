use Rattle.row_spans.proofs.Rooms.{room, fits-is}
use Rattle.row_spans.proofs.exact.quotient.Goals as goal

pub returns : goal.returns
returns c = room _ _ _ (fits-is _) c.div.ensures.value c.div.ensures.fits
