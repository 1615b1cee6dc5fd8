use Rattle.std.proofs.Common.{◌∙◌, sym}
use Rattle.sparse_problem.proofs.TermWalks.{row_read}
use Rattle.sparse_problem.proofs.row_totals.totals_of_row.Goals as goal

pub totals_of-requires : goal.totals_of-requires
totals_of-requires c = record { few = row_read c.args.parts.now c.args.i c.rows.result.now c.index-rows-i.result c.as_slice.result.now c.is_sparse.ensures (sym c.is_row_live.ensures ∙ c.if-not-is_row_live.false) c.rows.ensures c.as_slice.ensures }
