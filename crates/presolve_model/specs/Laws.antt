-- What a history keeps.
use Rattle.std.specs.Prelude.{◌≡◌, true, List}
use Rattle.fractions.specs.Number.{◌-ℚ◌}
use Rattle.fractions.specs.declared.Numbers.{Numbers}
use Rattle.lp_model.specs.declared.program.Sense.TheVariants.{Min}
use Rattle.lp_model.specs.Optimality.{Continuous}
use Rattle.lp_model.specs.Reductions.{Reduces, ReducesPairs}
use Rattle.undo_records.specs.Lift.{lift}
use Rattle.undo_pairs.specs.LiftPair.{lift_pair}
use Rattle.problem_model.specs.Sparse.{Sparse}
use Rattle.problem_model.specs.Problems.{IsSparse}
use Rattle.problem_model.specs.Showing.{shown}
use Rattle.presolve_model.specs.declared.instance.Reduction.{Reduction}
use Rattle.presolve_model.specs.declared.instance.Verdict.{Verdict}
use Rattle.presolve_model.specs.declared.instance.Instance.TheVariants as at
use Rattle.presolve_model.specs.Enabled.{enabled_on}
use Rattle.presolve_model.specs.Meanings.{Meant}
use Rattle.presolve_model.specs.Replay.{replay, records, Replays}

-- the linear program shown at the start is reduced to the one shown at the end, undone by the records last first
abbrev pub HistoryReduces : Type 0
HistoryReduces = (numbers : Numbers) (p : Sparse) (rs : List Reduction) → IsSparse p → Replays numbers p rs
    → Reduces Min (shown p) (shown (replay p rs)) (lift (records p rs)) ((replay p rs).offset -ℚ p.offset)

-- where no column is whole, what meets the optimality conditions at the end is undone to what meets them at the start
abbrev pub HistoryReducesPairs : Type 0
HistoryReducesPairs = (numbers : Numbers) (p : Sparse) (rs : List Reduction) → IsSparse p → Replays numbers p rs → Continuous (shown p)
    → ReducesPairs Min (shown p) (shown (replay p rs)) (lift_pair (records p rs))

-- a verdict that is enabled at the end means at the start what it says
abbrev pub VerdictMeans : Type 0
VerdictMeans = (numbers : Numbers) (p : Sparse) (rs : List Reduction) (v : Verdict) → IsSparse p → Replays numbers p rs
    → enabled_on (replay p rs) (at.Verdict v) ≡ true → Meant v Min (shown p)
