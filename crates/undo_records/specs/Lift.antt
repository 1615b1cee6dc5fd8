-- What undoing makes of a point: a number for each original column.
use Rattle.std.specs.Prelude.{List, [], ◌∷◌, drop, if◌then◌else◌}
use Rattle.fractions.specs.Number.{Number, zero_ℚ}
use Rattle.lp_model.specs.Vectors.{Vector, vector_of}
use Rattle.undo_records.specs.declared.label.Label.{Label}
use Rattle.undo_records.specs.declared.undo.Undo.{Undo}
use Rattle.undo_records.specs.declared.undo.Undo.TheVariants.{FixedColumn, DoubletonEquation, FreeColumnSingleton, SlackColumnSingleton, ParallelColumns}
use Rattle.undo_records.specs.FixedColumn as fixed_column
use Rattle.undo_records.specs.DoubletonEquation as doubleton_equation
use Rattle.undo_records.specs.FreeColumnSingleton as free_column_singleton
use Rattle.undo_records.specs.SlackColumnSingleton as slack_column_singleton
use Rattle.undo_records.specs.ParallelColumns as parallel_columns

-- what one undone record makes of the point x
abbrev pub undone : Undo → Vector → Vector
undone (FixedColumn r) x = fixed_column.undone r x
undone (DoubletonEquation r) x = doubleton_equation.undone r x
undone (FreeColumnSingleton r) x = free_column_singleton.undone r x
undone (SlackColumnSingleton r) x = slack_column_singleton.undone r x
undone (ParallelColumns r) x = parallel_columns.undone r x
undone other x = x

-- Lift: the records, first applied first, are undone last first
abbrev pub lift : List Undo → Vector → Vector
lift [] x = x
lift (u ∷ us) x = undone u (lift us x)

-- a reduced point by original columns: a live column has the next of its numbers, 0 past the last; a deleted one has 0
abbrev pub placed : List Label → List Number → List Number
placed [] xs = []
placed (c ∷ cs) xs = if c.live then vector_of xs 0 ∷ placed cs (drop 1 xs) else zero_ℚ ∷ placed cs xs
