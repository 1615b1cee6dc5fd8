use Rattle.std.proofs.Common.{◌≡◌, take}
use Rattle.lp_model.specs.Sparse.{without}
use Rattle.aggregation_rules.proofs.doubleton_equation.terms_without.Given as goal

-- those so far
abbrev pub invariant-loop-term : goal.invariant-loop-term
invariant-loop-term l = l.items.items ≡ without l.id (take l.term-index l.terms)
