use Rattle.mps_laws.proofs.Counts.{cards_few, rows_per_line, columns_per_line, program_rows_per_line, program_columns_per_line}
use Rattle.mps_laws.proofs.reading_laws.rows_and_columns_have_lines.Goals as goal

pub returns : goal.returns
returns c = record { cards = cards_few; rows = rows_per_line; columns = columns_per_line; program_rows = program_rows_per_line; program_columns = program_columns_per_line }
