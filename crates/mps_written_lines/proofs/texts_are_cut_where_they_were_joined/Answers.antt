use Rattle.mps_written_lines.proofs.Lines.{lines_again, words_again}
use Rattle.mps_written_lines.proofs.texts_are_cut_where_they_were_joined.Goals as goal

pub returns : goal.returns
returns c = record { lines = lines_again; words = words_again }
