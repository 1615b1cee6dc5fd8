use Rattle.std.proofs.Common.{◌≡◌, ◌++◌, length}
use Rattle.problem_model.specs.Sparse.{Sparse}
use Rattle.presolve_model.specs.Scans.{instances_at}
use Rattle.presolve_model.specs.Tallies.{Open}
use Rattle.threaded_passes.specs.Pieces.{of_pieces}
use Rattle.threaded_passes.proofs.pieces.cut.Given as goal

-- those in pieces, and those that are left
abbrev pub invariant-loop-rest : goal.invariant-loop-rest
invariant-loop-rest l = (opens : Open) (p : Sparse) → of_pieces opens p l.pieces.items ++ instances_at opens p l.rule l.rest ≡ of_pieces opens p l.initial.pieces.items ++ instances_at opens p l.rule l.ids

abbrev pub decreases-loop-rest : goal.decreases-loop-rest
decreases-loop-rest l = length l.rest
