-- What records say of how a program was reduced.
use Rattle.std.specs.Prelude.{◌≡◌, ℕ, ◌+◌, List, [], ◌∷◌, map, if◌then◌else◌}
use Rattle.fractions.specs.declared.Numbers.{Numbers}
use Rattle.lp_model.specs.ProgramData.{ProgramData}
use Rattle.lp_model.specs.Meaning.{meaning}
use Rattle.lp_model.specs.Reductions.{Priced, Reduces, ReducesPairs}
use Rattle.lp_model.specs.Vectors.{Vector}
use Rattle.lp_model.specs.Turning.{in_sense, signed}
use Rattle.lp_passages.specs.Renumbering.{spread, spread_pair}
use Rattle.undo_records.specs.Postsolve.{Postsolve}
use Rattle.undo_records.specs.Lift.{lift}
use Rattle.undo_records.specs.declared.label.Label.{Label}
use Rattle.undo_pairs.specs.LiftPair.{lift_pair}
use Rattle.presolve_model.specs.declared.instance.Reduction.{Reduction}
use Rattle.problem_model.specs.Programs.{IsProblemOf, written_program}
use Rattle.presolve_model.specs.Replay.{replay, records, Replays}
use Rattle.presolve_model.specs.Transactions.{TellReadings}
use Rattle.problem_model.specs.Sparse.{Sparse}

-- Walks: the reductions that were recorded can be applied one after the other, from the program's problem p on, with these very records;
-- what is left is q, of which the reduced program is written; the offset is what was added to the cost, in the file's sense; and the
-- labels say what is live. Each transaction lists exactly what its reduction reads of the problem then present, with the numbers then
-- present.
pub record Walked (numbers : Numbers) (program reduced : ProgramData) (told : Postsolve) : Type 0 where
  pub start : Sparse
  pub history : List Reduction
  pub opened : IsProblemOf program start
  pub replays : Replays numbers start history
  pub undos : told.undos ≡ records start history
  pub transactions : TellReadings start history told.transactions
  pub written : reduced ≡ written_program program (replay start history)
  pub offset : told.offset ≡ signed program.sense (replay start history).offset
  pub rows : map (λ l. l.live) told.rows ≡ map (λ l. l.live) (replay start history).matrix.rows
  pub columns : map (λ l. l.live) told.columns ≡ map (λ l. l.live) (replay start history).matrix.columns

-- the ids of the live labels, ascending, from k on
abbrev pub live_labels_from : ℕ → List Label → List ℕ
live_labels_from k [] = []
live_labels_from k (l ∷ ls) = if l.live then k ∷ live_labels_from (k + 1) ls else live_labels_from (k + 1) ls

-- a point of the reduced program at the original columns, with the records undone, last first
abbrev pub postsolved : Postsolve → Vector → Vector
postsolved told x = lift told.undos (spread (live_labels_from 0 told.columns) x)

-- each feasible point of the reduced program postsolves to a feasible original one that costs the offset more, and for each feasible
-- original point there is a reduced one no worse
abbrev pub ReducesTo : ProgramData → ProgramData → Postsolve → Type 0
ReducesTo program reduced told = Reduces program.sense (meaning program) (meaning reduced) (postsolved told) told.offset

-- a pair of the reduced program, in the file's sense, at the original rows and columns
abbrev pub at_original_ids : Postsolve → Priced → Priced
at_original_ids told p = spread_pair (live_labels_from 0 told.rows) (live_labels_from 0 told.columns) p

-- and with the records undone, last first
abbrev pub postsolved_pair : Postsolve → Priced → Priced
postsolved_pair told p = in_sense told.sense (lift_pair told.undos) (at_original_ids told p)

-- what meets the optimality conditions of the reduced program postsolves to what meets those of the program, with z = c - yA before and after
abbrev pub ReducesPairsTo : ProgramData → ProgramData → Postsolve → Type 0
ReducesPairsTo program reduced told = ReducesPairs program.sense (meaning program) (meaning reduced) (postsolved_pair told)
