-- What a book means.
use Rattle.std.specs.Prelude.{IfSome}
use Rattle.fractions.specs.Number.{◌-ℚ◌}
use Rattle.lp_model.specs.declared.program.Sense.TheVariants.{Min}
use Rattle.lp_model.specs.Optimality.{Continuous}
use Rattle.lp_model.specs.Reductions.{Reduces, ReducesPairs}
use Rattle.undo_records.specs.Lift.{lift}
use Rattle.undo_pairs.specs.LiftPair.{lift_pair}
use Rattle.presolve_model.specs.Ledger.{Ledger}
use Rattle.presolve_model.specs.Meanings.{Meant}
use Rattle.problem_model.specs.Showing.{shown}

-- the linear program that was shown at first is reduced to the one that is shown now, as the records and the offset say; where no column is
-- whole, the records bring duals back too; and a verdict means at first what it says
pub record Means (b : Ledger) : Type 0 where
  pub reduces : Reduces Min (shown b.start) (shown b.problem) (lift b.records) (b.problem.offset -ℚ b.start.offset)
  pub pairs : Continuous (shown b.start) → ReducesPairs Min (shown b.start) (shown b.problem) (lift_pair b.records)
  pub verdict : IfSome b.verdict (λ v. Meant v Min (shown b.start))
