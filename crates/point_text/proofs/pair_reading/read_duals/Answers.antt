use Rattle.point_text.specs.Holding.{held}
use Rattle.point_text.proofs.PairGoing.{duals_read, duals_told}
use Rattle.point_text.proofs.pair_reading.read_duals.Goals as goal

pub returns-in-Ok-clause-read : goal.returns-in-Ok-clause-read
returns-in-Ok-clause-read g c =
    duals_read g.T.Textual.texts.reading (g.L.Labels.row_names c.args.labels.now) c.in_ok-values.values.table c.args.lines_before c.args.text.now (held g.T.Exact.number c.take_lines.new.values) c.in_ok-duals-in-Ok.field-0 c.in_ok-values.ensures.table
    c.in-Ok.ensures.took.0 c.in-Ok.ensures.took.1 c.in_ok-duals-in-Ok.ensures.values

pub returns-clause-read : goal.returns-clause-read
returns-clause-read g c =
    duals_told g.T.Textual.texts.reading (g.L.Labels.row_names c.args.labels.now) c.in_ok-values.values.table c.args.lines_before c.args.text.now (held g.T.Exact.number c.take_lines.new.values) c.in-Err.error c.in_ok-values.ensures.table c.in-Err.ensures.took
