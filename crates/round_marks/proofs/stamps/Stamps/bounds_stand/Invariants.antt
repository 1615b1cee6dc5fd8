use Rattle.std.proofs.Common.{◌≡◌, length, map}
use Rattle.problem_model.specs.declared.part.Part.TheVariants as part
use Rattle.problem_model.specs.Matrices.{live_only}
use Rattle.round_laws.specs.Passing.{are_unchanged}
use Rattle.round_marks.specs.Stamping.{stamp_at}
use Rattle.round_marks.proofs.stamps.Stamps.bounds_stand.Given as goal

-- the terms that are left decide
abbrev pub invariant-loop-rest : goal.invariant-loop-rest
invariant-loop-rest l = are_unchanged (stamp_at l.self) l.problem (map (λ t. part.Bounds t.id) (live_only l.problem.matrix.columns l.rest)) ≡ are_unchanged (stamp_at l.self) l.problem (map (λ t. part.Bounds t.id) (live_only l.problem.matrix.columns l.terms))

abbrev pub decreases-loop-rest : goal.decreases-loop-rest
decreases-loop-rest l = length l.rest
