use Rattle.std.proofs.Common.{◌≡◌, take}
use Rattle.lp_model.specs.Sparse.{without}
use Rattle.column_rules.proofs.sole_entry.terms_without.Given as goal

-- those in other columns so far
abbrev pub invariant-loop-term : goal.invariant-loop-term
invariant-loop-term l = l.items.items ≡ without l.column (take l.term-index l.terms)
