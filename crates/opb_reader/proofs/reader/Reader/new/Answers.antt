use Rattle.std.proofs.Common.{refl}
use Rattle.opb_reader.proofs.reader.Reader.new.Goals as goal

pub returns : goal.returns
returns c = record { place = refl; shape = (refl, refl, λ i name. refl); literal = refl; number = c.natural.ensures; rows = c.in_ok-new.ensures; columns = c.new-2.ensures _ _ }
