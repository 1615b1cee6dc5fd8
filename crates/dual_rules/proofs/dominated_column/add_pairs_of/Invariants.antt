use Rattle.std.proofs.Common.{◌≡◌, ◌++◌, drop}
use Rattle.dual_rules.specs.Pairs.{entries_of, pairs_beside}
use Rattle.dual_rules.proofs.dominated_column.add_pairs_of.Given as goal

-- those so far, so that with those that are left they are all
abbrev pub invariant-loop-other : goal.invariant-loop-other
invariant-loop-other l = l.pairs.items ++ pairs_beside l.problem l.better.entry.id (entries_of (drop l.other-index l.others)) ≡ l.initial.pairs.items ++ pairs_beside l.problem l.better.entry.id (entries_of l.others)
