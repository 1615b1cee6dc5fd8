use Rattle.std.proofs.Common.{ℕ, nat_eq, ap, ◌∙◌}
use Rattle.row_spans.specs.Spans.{spans_of}
use Rattle.activities.proofs.RowLooks.{none_crossed}
use Rattle.activities.proofs.rows.columns_in_order.Goals as goal

pub returns-in-Some : goal.returns-in-Some
returns-in-Some c = ap (λ (n : ℕ). nat_eq n 0) c.in-Some.ensures ∙ none_crossed (spans_of c.args.problem.now c.args.row)
