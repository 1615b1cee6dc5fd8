use Rattle.mps_written_lines.proofs.Texts.{text_lines}
use Rattle.mps_written_lines.proofs.written_texts_have_lines.Goals as goal

pub returns : goal.returns
returns c = text_lines
