use Rattle.mps_laws.proofs.Loop.{at_start, one_more, at_end, without_end, at_fault}
use Rattle.mps_laws.proofs.reading_laws.texts_are_read_by_lines.Goals as goal

pub returns : goal.returns
returns c = record { starts = at_start; goes_on = one_more; ends = at_end; stops = without_end; fails = at_fault }
