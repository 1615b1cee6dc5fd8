use Rattle.std.proofs.Common.{sym, ◌∙◌}
use Rattle.dual_rules.specs.Footprints.{asked, offered}
use Rattle.dual_rules.proofs.FootprintSets.{none_counted, one_counted}
use Rattle.dual_rules.proofs.footprints.with_live.Goals as goal

pub returns-then-is_row_live-clause-asked : goal.returns-then-is_row_live-clause-asked
returns-then-is_row_live-clause-asked c = one_counted (asked c.args.problem.now) c.args.before.now.asked _ c.args.term.now _ (sym c.is_row_live.ensures ∙ c.if-is_row_live.true) c.with_entry.ensures.asked

pub returns-then-is_row_live-clause-offered : goal.returns-then-is_row_live-clause-offered
returns-then-is_row_live-clause-offered c = one_counted (offered c.args.problem.now) c.args.before.now.offered _ c.args.term.now _ (sym c.is_row_live.ensures ∙ c.if-is_row_live.true) c.with_entry.ensures.offered

pub returns-else-is_row_live-clause-asked : goal.returns-else-is_row_live-clause-asked
returns-else-is_row_live-clause-asked c = none_counted (asked c.args.problem.now) c.args.before.now.asked c.args.term.now _ (sym c.is_row_live.ensures ∙ c.if-is_row_live.false)

pub returns-else-is_row_live-clause-offered : goal.returns-else-is_row_live-clause-offered
returns-else-is_row_live-clause-offered c = none_counted (offered c.args.problem.now) c.args.before.now.offered c.args.term.now _ (sym c.is_row_live.ensures ∙ c.if-is_row_live.false)
