use Rattle.std.proofs.Common.{◌≡◌, drop}
use Rattle.lp_model.specs.Sparse.{dense}
use Rattle.lp_model.proofs.plain.number_at.Given as goal

abbrev pub invariant-loop-term : goal.invariant-loop-term
invariant-loop-term l = dense (drop l.term-index l.terms) l.id ≡ dense l.terms l.id
