-- Pieces of what a round tests.
use Rattle.std.specs.Prelude.{ℕ, List}
use Rattle.std.specs.List.{filter, flat_map}
use Rattle.problem_model.specs.Sparse.{Sparse}
use Rattle.presolve_model.specs.declared.instance.Instance.{Instance}
use Rattle.presolve_model.specs.declared.instance.Rule.{Rule}
use Rattle.presolve_model.specs.Enabled.{enabled_on}
use Rattle.presolve_model.specs.Scans.{instances_at}
use Rattle.presolve_model.specs.Tallies.{Open}

-- some first ids of a rule
pub record PieceData : Type 0 where
  pub rule : Rule
  pub ids : List ℕ

-- the instances of a piece, and those of pieces, each in turn
abbrev pub instances_in : Open → Sparse → PieceData → List Instance
instances_in opens p piece = instances_at opens p piece.rule piece.ids

abbrev pub of_pieces : Open → Sparse → List PieceData → List Instance
of_pieces opens p pieces = flat_map (instances_in opens p) pieces

-- those of a piece that are enabled
abbrev pub enabled_in : Open → Sparse → PieceData → List Instance
enabled_in opens p piece = filter (enabled_on p) (instances_in opens p piece)
