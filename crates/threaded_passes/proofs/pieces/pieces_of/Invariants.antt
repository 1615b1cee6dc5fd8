use Rattle.std.proofs.Common.{◌≡◌, ◌++◌, length}
use Rattle.problem_model.specs.Sparse.{Sparse}
use Rattle.presolve_model.specs.Tallies.{Open}
use Rattle.place_laws.specs.Choosing.{instances_of}
use Rattle.threaded_passes.specs.Pieces.{of_pieces}
use Rattle.threaded_passes.proofs.pieces.pieces_of.Given as goal

-- those in pieces, and those of the rules that are left
abbrev pub invariant-loop-rest : goal.invariant-loop-rest
invariant-loop-rest l = (opens : Open) (p : Sparse) → of_pieces opens p l.pieces.items ++ instances_of opens p l.ids l.rest ≡ instances_of opens p l.ids l.rules

abbrev pub decreases-loop-rest : goal.decreases-loop-rest
decreases-loop-rest l = length l.rest
