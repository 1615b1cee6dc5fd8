use Rattle.std.proofs.Common.{◌∙◌, sym}
use Rattle.activities.proofs.RowLooks.{entry_in}
use Rattle.activity_rules.proofs.bound_tightening.new_bound.Goals as goal

pub left_over-requires : goal.left_over-requires
left_over-requires c = λ e. entry_in c.args.problem.now c.args.row c.args.column c.is_sparse.ensures c.requires.column (sym c.entry_of-entry.ensures ∙ e)
