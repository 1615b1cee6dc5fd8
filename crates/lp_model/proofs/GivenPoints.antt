-- What a program means lets through the points of the program as it is given.
use Rattle.std.proofs.Common.{ℕ}
use Rattle.lp_model.specs.Vectors.{Vector}
use Rattle.lp_model.specs.LinearProgram.{Feasible}
use Rattle.lp_model.specs.Meaning.{meaning, column_at}
use Rattle.lp_model.specs.ProgramData.{ProgramData}
use Rattle.lp_model.specs.GivenPoints.{IsPointOf}
use Rattle.lp_model.proofs.GapLaws.{reaches, lies}

pub point_given : (p : ProgramData) (x : Vector) → Feasible (meaning p) x → IsPointOf p x
point_given p x f = record {
  rows = f.rows;
  columns = λ j l. (lies (column_at p j).semi (column_at p j).lower (column_at p j).upper (x j) (f.columns j l) (f.gaps j l), f.whole j l);
}

pub given_feasible : (p : ProgramData) (x : Vector) → IsPointOf p x → Feasible (meaning p) x
given_feasible p x g = record {
  rows = g.rows;
  columns = λ j l. (reaches (column_at p j).semi (column_at p j).lower (column_at p j).upper (x j) (g.columns j l).0).0;
  whole = λ j l. (g.columns j l).1;
  gaps = λ j l. (reaches (column_at p j).semi (column_at p j).lower (column_at p j).upper (x j) (g.columns j l).0).1;
}
