use Rattle.mps_written_lines.proofs.Reading.{lines_again}
use Rattle.mps_written_lines.proofs.written_lines_are_read_again.Goals as goal

pub returns : goal.returns
returns c = lines_again
