use Rattle.row_spans.proofs.Reading.{row_is_read, spans_of-are}
use Rattle.row_spans.proofs.laws.spans_are_read.Goals as goal

pub returns-clause-read : goal.returns-clause-read
returns-clause-read c = row_is_read

pub returns-clause-spans : goal.returns-clause-spans
returns-clause-spans c = spans_of-are
