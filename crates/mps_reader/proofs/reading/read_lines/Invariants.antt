use Rattle.std.proofs.Common.{List, length}
use Rattle.mps_profile.specs.Texts.{Text}
use Rattle.mps_laws.specs.Going.{Going}
use Rattle.mps_reader.specs.Reading.{Has}
use Rattle.mps_reader.proofs.reading.read_lines.Given as goal

-- the lines before, and how far the reading has come
abbrev pub invariant-loop-rest : goal.invariant-loop-rest
invariant-loop-rest l = (before : List Text) × Going l.fn.dialect l.fn.text l.rest l.number before × Has l.fn.dialect before l.reader

abbrev pub decreases-loop-rest : goal.decreases-loop-rest
decreases-loop-rest l = length l.rest
