use Rattle.std.proofs.Common.{◌≡◌, ◌++◌, drop}
use Rattle.dual_rules.specs.Pairs.{entries_of, pairs_among}
use Rattle.dual_rules.proofs.dominated_column.add_pairs.Given as goal

-- those so far, so that with those that are left they are all
abbrev pub invariant-loop-column : goal.invariant-loop-column
invariant-loop-column l = l.pairs.items ++ pairs_among l.problem (entries_of (drop l.column-index l.columns)) (entries_of l.columns) ≡ l.initial.pairs.items ++ pairs_among l.problem (entries_of l.columns) (entries_of l.columns)
