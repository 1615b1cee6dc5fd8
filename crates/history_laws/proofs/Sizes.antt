-- A history keeps the numbers of rows and columns, and the constant.
use Rattle.std.proofs.Common.{List, [], ◌∷◌, refl, ◌∙◌}
use Rattle.problem_model.specs.Sparse.{Sparse}
use Rattle.edit_laws.specs.Sizes.{SameSize}
use Rattle.presolve_model.specs.declared.instance.Reduction.{Reduction}
use Rattle.presolve_model.specs.Changes.{changed}
use Rattle.presolve_model.specs.Replay.{replay}
use Rattle.presolve_model.proofs.Tabled.{same_size}

pub replay_size : (p : Sparse) (rs : List Reduction) → SameSize p (replay p rs)
replay_size p [] = record { rows = refl; columns = refl; constant = refl }
replay_size p (r ∷ rs) =
    let f = same_size p r in let g = replay_size (changed r p) rs in
    record { rows = g.rows ∙ f.rows; columns = g.columns ∙ f.columns; constant = g.constant ∙ f.constant }
