-- When the numbers that undoing computes have room in a kind of numbers.
use Rattle.std.specs.Prelude.{ℕ, pred, ◌≤◌, List, [], ◌∷◌, length, drop, ⊤}
use Rattle.fractions.specs.Room.{Room}
use Rattle.lp_model.specs.Vectors.{Vector}
use Rattle.undo_records.specs.declared.undo.Undo.{Undo}
use Rattle.undo_records.specs.declared.undo.Undo.TheVariants.{DoubletonEquation, FreeColumnSingleton, SlackColumnSingleton, ParallelColumns}
use Rattle.undo_records.specs.DoubletonEquation as doubleton_equation
use Rattle.undo_records.specs.FreeColumnSingleton as free_column_singleton
use Rattle.undo_records.specs.SlackColumnSingleton as slack_column_singleton
use Rattle.undo_records.specs.ParallelColumns as parallel_columns
use Rattle.undo_records.specs.Lift.{lift}

-- what one undone record computes
abbrev pub UndoFits : Room → Undo → Vector → Type 0
UndoFits m (DoubletonEquation r) x = doubleton_equation.UndoFits m r x
UndoFits m (FreeColumnSingleton r) x = free_column_singleton.UndoFits m r x
UndoFits m (SlackColumnSingleton r) x = slack_column_singleton.UndoFits m r x
UndoFits m (ParallelColumns r) x = parallel_columns.UndoFits m r x
UndoFits m other x = ⊤

-- the lift fits: each record, at what the records after it have made of the point
abbrev pub LiftFits : Room → List Undo → Vector → Type 0
LiftFits m [] x = ⊤
LiftFits m (u ∷ us) x = LiftFits m us x × UndoFits m u (lift us x)

-- it stops at record number `at`, from 1 on: those after it fit, and with it they don't
pub record StopsAt (m : Room) (us : List Undo) (x : Vector) (at : ℕ) : Type 0 where
  pub within : at ≤ length us
  pub after : LiftFits m (drop at us) x
  pub here : LiftFits m (drop (pred at) us) x → ⊥
