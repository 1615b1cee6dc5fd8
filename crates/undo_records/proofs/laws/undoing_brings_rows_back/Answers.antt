use Rattle.lp_model.specs.Sparse.{sparse_total}
use Rattle.undo_records.proofs.UndoneRows.{row_of_two, row_at_side, parts_add_up}
use Rattle.undo_records.proofs.laws.undoing_brings_rows_back.Goals as goal

pub returns-clause-doubleton : goal.returns-clause-doubleton
returns-clause-doubleton c = λ r x n e. row_of_two x r.column r.kept r.value r.kept_value r.equal n e

pub returns-clause-free : goal.returns-clause-free
returns-clause-free c = λ r x n. row_at_side x r.column r.value r.at (sparse_total r.entries x) n

pub returns-clause-merged : goal.returns-clause-merged
returns-clause-merged c = λ r x n. parts_add_up x r.column r.kept r.factor _ n
