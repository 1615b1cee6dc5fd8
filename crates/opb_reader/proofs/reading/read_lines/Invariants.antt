use Rattle.std.proofs.Common.{length}
use Rattle.opb_reader.proofs.Walking.{Going}
use Rattle.opb_reader.proofs.reading.read_lines.Given as goal

-- the lines that are left, and the tokens before them
abbrev pub invariant-loop-rest : goal.invariant-loop-rest
invariant-loop-rest l = Going l.fn.text l.rest l.number l.reader

abbrev pub decreases-loop-rest : goal.decreases-loop-rest
decreases-loop-rest l = length l.rest
