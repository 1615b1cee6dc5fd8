use Rattle.row_spans.proofs.Rooms.{room, fits-is}
use Rattle.row_spans.proofs.exact.product.Goals as goal

pub returns-clause-exact : goal.returns-clause-exact
returns-clause-exact c = room _ _ _ (fits-is _) c.mul.ensures.value c.mul.ensures.fits
