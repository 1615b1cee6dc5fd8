use Rattle.std.proofs.Common.{◌∙◌}
use Rattle.column_rules.proofs.SoleEntries.{others_live}
use Rattle.column_rules.proofs.sole_entry.costs_less.Goals as goal

pub all_costs-requires : goal.all_costs-requires
all_costs-requires c = others_live c.args.problem.now c.args.column c.args.row c.as_slice.result.now (c.as_slice.ensures ∙ c.requires.others)
