use Rattle.std.proofs.Common.{◌≡◌, map, take}
use Rattle.std.specs.List.{All}
use Rattle.column_laws.specs.SoleEntry.{cost_less, CostComputes}
use Rattle.column_rules.proofs.sole_entry.all_costs.Given as goal

-- the costs so far, of which no number is past
abbrev pub invariant-loop-term : goal.invariant-loop-term
invariant-loop-term l = (l.all.items ≡ map (cost_less l.problem l.price) (take l.term-index l.terms)) × All (CostComputes l.problem l.price) (take l.term-index l.terms)
