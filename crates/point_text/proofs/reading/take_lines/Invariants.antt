use Rattle.std.proofs.Common.{◌≡◌, ◌+◌, ◌≤◌, List, length}
use Rattle.point_text.specs.SolutionLines.{Line}
use Rattle.point_text.specs.Holding.{held}
use Rattle.point_text.specs.PairText.{silent}
use Rattle.point_text.proofs.Going.{Going}
use Rattle.point_text.proofs.reading.take_lines.Given as goal

abbrev pub invariant-loop-rest : goal.invariant-loop-rest
invariant-loop-rest g l = record {
  few : l.number + length l.rest ≤ l.fn.lines_before + length l.fn.text;
  len : length l.values.numbers.items ≡ length l.values.table;
  table : l.values.table ≡ l.fn.values.table;
  going : (before : List Line) × Going g.T.Textual.texts.reading l.fn.values.table (silent l.fn.lines_before) l.fn.text l.rest l.number (held g.T.Exact.number l.values) before;
}

abbrev pub decreases-loop-rest : goal.decreases-loop-rest
decreases-loop-rest g l = length l.rest
