use Rattle.std.proofs.Common.{◌≡◌, ◌+◌, ◌≤◌, List, length}
use Rattle.text_lines.specs.Lines.{lines_of}
use Rattle.point_text.specs.SolutionLines.{Line}
use Rattle.point_text.specs.Holding.{held}
use Rattle.point_text.proofs.PairGoing.{ColumnsGo}
use Rattle.point_text.proofs.pair_reading.take_column_lines.Given as goal

abbrev pub invariant-loop-rest : goal.invariant-loop-rest
invariant-loop-rest g l = record {
  few : l.line_number + length l.rest ≤ length l.fn.text;
  len : length l.values.numbers.items ≡ length l.values.table;
  table : l.values.table ≡ l.fn.values.table;
  going : (before : List Line) × ColumnsGo g.T.Textual.texts.reading l.fn.values.table (lines_of l.fn.text) (lines_of l.rest) l.line_number (held g.T.Exact.number l.values) before;
}

abbrev pub decreases-loop-rest : goal.decreases-loop-rest
decreases-loop-rest g l = length l.rest
