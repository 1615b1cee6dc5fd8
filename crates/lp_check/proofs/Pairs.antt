-- A pair with the verdict yes meets the optimality conditions.
use Rattle.fractions.specs.Number.{Number}
use Rattle.fractions.specs.Room.{Room}
use Rattle.lp_model.specs.declared.program.Sense.{Sense}
use Rattle.lp_model.specs.Vectors.{Vector}
use Rattle.lp_model.specs.LinearProgram.{LinearProgram}
use Rattle.lp_model.specs.Optimality.{Continuous, Meets}
use Rattle.lp_check.specs.declared.verdicts.Verdict.TheVariants.{Yes}
use Rattle.lp_check.specs.declared.pair_verdicts.PairVerdict.TheVariants.{OnPoint}
use Rattle.lp_check.specs.DecidingPairs.{DecidesPairIn}

pub meets_of : (m : Room) (s : Sense) (M : LinearProgram) (x y : Vector) (c : Number) → Continuous M → DecidesPairIn m s M x y (OnPoint (Yes c)) → Meets s M x y
meets_of m s M x y c continuous decides =
    let passed = decides.1 tt in
    record {
      continuous = continuous;
      feasible = record {
        rows = λ i l. (decides.0.0.1 i l).1.0;
        columns = λ j l. (decides.0.0.0 j l).0.0;
        whole = λ j l. (decides.0.0.0 j l).0.1;
        gaps = λ j l. (decides.0.0.0 j l).1;
      };
      rows = passed.0;
      columns = λ j l. (passed.1 j l).1;
    }
