use Rattle.std.proofs.Common.{◌≡◌, ◌++◌, drop}
use Rattle.coef_rules.specs.Columns.{ids_among}
use Rattle.coef_rules.proofs.listing.add_columns.Given as goal

-- those so far, so that with those that are left they are all
abbrev pub invariant-loop-place : goal.invariant-loop-place
invariant-loop-place l = l.found.items ++ ids_among l.side l.limit l.sums (drop l.place l.sums) ≡ l.initial.found.items ++ ids_among l.side l.limit l.sums l.sums
