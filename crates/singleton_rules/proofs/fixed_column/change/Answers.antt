use Rattle.std.proofs.Common.{◌∙◌}
use Rattle.singleton_rules.proofs.Rows.{rows_live}
use Rattle.singleton_rules.proofs.fixed_column.change.Goals as goal

pub all_sides-requires : goal.all_sides-requires
all_sides-requires c = rows_live c.args.problem.now c.args.column c.as_slice.result.now (c.as_slice.ensures ∙ c.in_ok-entries.ensures)
