use Rattle.point_text.specs.Holding.{held}
use Rattle.point_text.proofs.PairGoing.{columns_read, columns_told}
use Rattle.point_text.proofs.pair_reading.read_columns.Goals as goal

pub returns-in-Ok-clause-read : goal.returns-in-Ok-clause-read
returns-in-Ok-clause-read g c =
    let read = columns_read g.T.Textual.texts.reading (g.L.Labels.column_names c.args.labels.now) c.in_ok-values.values.table c.args.text.now (held g.T.Exact.number c.take_column_lines.new.values) c.in_ok-point-in-Ok.point c.in_ok-values.ensures.table
    c.in-Ok.ensures.took.0 c.in-Ok.ensures.took.1 c.in_ok-point-in-Ok.ensures.values in
    (read.0, read.1, c.in-Ok.ensures.took.2)

pub returns-clause-read : goal.returns-clause-read
returns-clause-read g c =
    columns_told g.T.Textual.texts.reading (g.L.Labels.column_names c.args.labels.now) c.in_ok-values.values.table c.args.text.now (held g.T.Exact.number c.take_column_lines.new.values) c.in-Err.error c.in_ok-values.ensures.table c.in-Err.ensures.took
