-- Records that walk from a program to a reduced one, whoever made them: each names a reduction that can be applied where its turn comes.
use Rattle.std.specs.Prelude.{◌≡◌, ◌⊎◌, true, ⊤, List, [], ◌∷◌, map}
use Rattle.fractions.specs.declared.Numbers.TheVariants.{Fractions}
use Rattle.lp_model.specs.ProgramData.{ProgramData}
use Rattle.lp_model.specs.Meaning.{meaning}
use Rattle.lp_model.specs.Names.{names_of_columns, names_of_rows}
use Rattle.lp_model.specs.Optimality.{Continuous}
use Rattle.lp_model.specs.Turning.{signed}
use Rattle.transactions.specs.declared.transactions.PartRead.{PartRead}
use Rattle.transactions.specs.Transactions.{Transaction}
use Rattle.undo_records.specs.declared.undo.Undo.{Undo}
use Rattle.undo_records.specs.declared.undo.Undo.TheVariants as undo
use Rattle.undo_records.specs.Postsolve.{Postsolve}
use Rattle.problem_model.specs.Programs.{IsProblemOf, written_program}
use Rattle.problem_model.specs.Sparse.{Sparse}
use Rattle.presolve_model.specs.declared.instance.Instance.TheVariants as at
use Rattle.presolve_model.specs.declared.instance.Reduction.{Reduction}
use Rattle.presolve_model.specs.declared.instance.Reduction.TheVariants.{EmptyRow, SingletonRow, FixedColumn, RoundedBounds, RedundantRow, RedundantSide, ForcingRow, BoundTightening, CoefficientTightening, DualFixing, DominatedColumn, DoubletonEquation, FreeColumnSingleton, SlackColumnSingleton, ParallelRows, ParallelColumns, EmptyColumn}
use Rattle.presolve_model.specs.Changes.{changed, ChangeFits, ChangeIsWritten}
use Rattle.presolve_model.specs.Enabled.{enabled_on}
use Rattle.presolve_model.specs.Replay.{replay}
use Rattle.presolve_model.specs.Tables.{record_of}
use Rattle.presolve_model.specs.Telling.{names_in}
use Rattle.presolve_model.specs.Transactions.{numbers_read}

-- the reduction that a record names
abbrev pub reduction_of : Undo → Reduction
reduction_of (undo.EmptyRow r) = EmptyRow r.row
reduction_of (undo.SingletonRow r) = SingletonRow r.row
reduction_of (undo.FixedColumn r) = FixedColumn r.column
reduction_of (undo.RoundedBounds r) = RoundedBounds r.column
reduction_of (undo.RedundantRow r) = RedundantRow r.row
reduction_of (undo.RedundantSide r) = RedundantSide r.row
reduction_of (undo.ForcingRow r) = ForcingRow r.row
reduction_of (undo.BoundTightening r) = BoundTightening r.row r.column r.side
reduction_of (undo.CoefficientTightening r) = CoefficientTightening r.row r.column
reduction_of (undo.DualFixing r) = DualFixing r.column
reduction_of (undo.DominatedColumn r) = DominatedColumn r.row r.better r.column
reduction_of (undo.DoubletonEquation r) = DoubletonEquation r.row r.column r.kept
reduction_of (undo.FreeColumnSingleton r) = FreeColumnSingleton r.column r.row
reduction_of (undo.SlackColumnSingleton r) = SlackColumnSingleton r.column r.row
reduction_of (undo.ParallelRows r) = ParallelRows r.row r.kept
reduction_of (undo.ParallelColumns r) = ParallelColumns r.column r.kept
reduction_of (undo.EmptyColumn r) = EmptyColumn r.column

-- The sense and the names are the program's, and duals are undone only where no column is whole or semi-continuous.
pub record HasHeader (program : ProgramData) (told : Postsolve) : Type 0 where
  pub sense : told.sense ≡ program.sense
  pub rows : names_in told.rows ≡ names_of_rows program.rows
  pub columns : names_in told.columns ≡ names_of_columns program.columns
  pub duals : told.duals ≡ true → Continuous (meaning program)

-- a list of parts is what a reduction reads of a problem, in order, with the present numbers; or nothing is told of it
abbrev pub IsReadingOf : Sparse → Reduction → List PartRead → Type 0
IsReadingOf p r reads = (reads ≡ []) ⊎ (reads ≡ numbers_read p (at.Reduction r))

-- the numbers of what it changes have room, and can be written with fractions
pub record HasChange (p : Sparse) (r : Reduction) : Type 0 where
  pub fits : ChangeFits r p
  pub written : ChangeIsWritten Fractions r p

-- the reduction that a record names can be applied, the parts told are those that it reads, and its record is this one
pub record IsStep (p : Sparse) (u : Undo) (reads : List PartRead) : Type 0 where
  pub enabled : enabled_on p (at.Reduction (reduction_of u)) ≡ true
  pub reading : IsReadingOf p (reduction_of u) reads
  pub change : HasChange p (reduction_of u)
  pub fields : record_of (reduction_of u) p ≡ u

-- each is one where its turn comes, and has its transaction
abbrev pub AreSteps : Sparse → List Undo → List Transaction → Type 0
AreSteps p [] ts = ⊤
AreSteps p (u ∷ us) [] = ⊥
AreSteps p (u ∷ us) (t ∷ ts) = IsStep p u t.reads × AreSteps (changed (reduction_of u) p) us ts

-- the problem to which records lead
abbrev pub walked_to : Sparse → List Undo → Sparse
walked_to p us = replay p (map reduction_of us)

-- From the program's problem the records lead step by step to one of which the reduced program is written, with the offset that they tell,
-- in the file's sense.
pub record Walk (program reduced : ProgramData) (told : Postsolve) : Type 0 where
  pub header : HasHeader program told
  pub start : Sparse
  pub opened : IsProblemOf program start
  pub steps : AreSteps start told.undos told.transactions
  pub written : reduced ≡ written_program program (walked_to start told.undos)
  pub offset : told.offset ≡ signed program.sense (walked_to start told.undos).offset
