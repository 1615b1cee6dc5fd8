use Rattle.std.proofs.Common.{subst, rules, List, ℕ, pos, arith}
use Rattle.std.proofs.lemmas.List.{get_or_past}
use Rattle.opb_columns.specs.Sums.{Covered}
use Rattle.opb_columns.proofs.Covering.{covered_past, covered_taken}
use Rattle.opb_columns.proofs.sums.Sums.take.Goals as goal

pub returns-then-column-len-clause-covered : goal.returns-then-column-len-clause-covered
returns-then-column-len-clause-covered c = λ covered.
    covered_past _ _ c.in_ok-column.column (subst (λ (columns : List ℕ). Covered c.args.self.now.values.items columns) c.in_ok-column.ensures.items covered)
    (get_or_past c.args.self.now.values.items c.in_ok-column.column (pos 0) (omega (arith, c.if-column-len.true, c.len.ensures)))

pub returns-clause-covered : goal.returns-clause-covered
returns-clause-covered c = λ covered.
    covered_taken _ _ _ c.in_ok-column.column (subst (λ (columns : List ℕ). Covered c.args.self.now.values.items columns) c.in_ok-column.ensures.items covered) (λ j. search rules)
