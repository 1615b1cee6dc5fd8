use Rattle.std.proofs.Common.{rules}
use Rattle.opb_columns.proofs.Covering.{covered_more, in_last}
use Rattle.opb_columns.proofs.sums.Sums.touch.Goals as goal

pub returns-in_ok-push-clause-covered : goal.returns-in_ok-push-clause-covered
returns-in_ok-push-clause-covered c = λ covered. let items = c.in_ok-push.ensures.items in rw items (covered_more _ _ c.args.column covered)

pub returns-in_ok-push-clause-column : goal.returns-in_ok-push-clause-column
returns-in_ok-push-clause-column c = λ none. let items = c.in_ok-push.ensures.items in rw items (in_last c.args.column _)
