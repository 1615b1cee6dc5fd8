-- Which rows and columns of a problem are live, as records speak of them.
use Rattle.std.specs.Prelude.{map}
use Rattle.lp_model.specs.Flags.{Flags}
use Rattle.problem_model.specs.Sparse.{Sparse}

abbrev pub flags_of : Sparse → Flags
flags_of p = record { rows = map (λ l. l.live) p.matrix.rows; columns = map (λ l. l.live) p.matrix.columns }
