-- What presolve concludes of a program.
use Rattle.std.specs.Prelude.{◌≡◌, ℕ, ◌<◌, ◌≤◌, true, List, length, Some, None}
use Rattle.lp_model.specs.Meaning.{meaning}
use Rattle.lp_model.specs.Names.{names_of_rows, names_of_columns, WellNamed}
use Rattle.lp_model.specs.Optimality.{Continuous}
use Rattle.lp_model.specs.ProgramData.{ProgramData}
use Rattle.lp_model.specs.Writable.{EntriesAscend, Writable}
use Rattle.undo_records.specs.declared.side.Side.{Side}
use Rattle.undo_records.specs.declared.undo.Undo.{Undo}
use Rattle.undo_records.specs.Named.{AreNamed, AreTold, live_names}
use Rattle.undo_records.specs.Postsolve.{Postsolve}
use Rattle.problem_model.specs.Programs.{IsProblemOf}
use Rattle.problem_model.specs.Sparse.{Sparse}
use Rattle.presolve_model.specs.declared.conclusion.End.{End}
use Rattle.presolve_model.specs.declared.conclusion.End.TheVariants.{Fixpoint, LimitReached}
use Rattle.presolve_model.specs.declared.conclusion.Options.{Options}
use Rattle.presolve_model.specs.declared.instance.Instance.TheVariants as at
use Rattle.presolve_model.specs.declared.instance.Reduction.{Reduction}
use Rattle.presolve_model.specs.declared.instance.Verdict.{Verdict}
use Rattle.presolve_model.specs.Accounts.{ReducesPairsTo, ReducesTo, Walked}
use Rattle.presolve_model.specs.Enabled.{enabled_on}
use Rattle.presolve_model.specs.Meanings.{Meant}
use Rattle.presolve_model.specs.Replay.{replay, Replays}
use Rattle.presolve_model.specs.Ledger.{Ledger}
use Rattle.presolve_model.specs.Ordered.{IsMadeInOrder, RunsTo}
use Rattle.presolve_model.specs.Stuck.{IsUndecided, skipped_on, Stuck}
use Rattle.presolve_model.specs.Tallies.{Open, open_by, tightenings}
use Rattle.presolve_model.specs.Telling.{names_in}
use Rattle.presolve_model.specs.Workers.{IsInOrder, Workers}

-- So many reductions were applied, and p is what is left. At a fixpoint there is room for more, and none that is open can be applied: those
-- that are enabled are counted, and each has a number that is past or can't be written. At the limit there is no room, and no verdict is
-- enabled.
abbrev pub TellsEndBy : End → Options → ℕ → Open → Sparse → Type 0
TellsEndBy (Fixpoint skipped) options applied opens p = (applied < options.limit) × Stuck options.numbers opens p × (skipped ≡ skipped_on opens p)
TellsEndBy LimitReached options applied opens p = (applied ≡ options.limit) × IsUndecided p

-- of these records, and of what they leave open
abbrev pub TellsEnd : End → Options → List Undo → Sparse → Type 0
TellsEnd ended options us p = TellsEndBy ended options (length us) (open_by us) p

-- The records carry the program's sense and names, and the reduced program the names of what is live, in the same order.
pub record CarriesNames (program reduced : ProgramData) (told : Postsolve) : Type 0 where
  pub sense : told.sense ≡ program.sense
  pub objective : reduced.objective ≡ program.objective
  pub rows : names_in told.rows ≡ names_of_rows program.rows
  pub columns : names_in told.columns ≡ names_of_columns program.columns
  pub live_rows : names_of_rows reduced.rows ≡ live_names told.rows
  pub live_columns : names_of_columns reduced.columns ≡ live_names told.columns

-- the program, the reduced one and the records have names, as all values of their types do; a program's names differ
pub record HaveNames (program reduced : ProgramData) (told : Postsolve) : Type 0 where
  pub given : WellNamed program.objective program.rows program.columns
  pub left : WellNamed reduced.objective reduced.rows reduced.columns
  pub records : AreNamed told

-- A program was reduced: the records walk from it to the reduced one, which they reduce it to, with duals too where no column has to be
-- whole, and the end is told of what was left. Each record has its transaction. No side of a column was tightened more than ten times. The
-- reduced program can be written. Where the workers' run is in order, all of that is as the ordered run has it.
pub record Concluded (options : Options) (workers : Workers) (program reduced : ProgramData) (told : Postsolve) (ended : End) : Type 0 where
  pub walked : Walked options.numbers program reduced told
  pub reduces : ReducesTo program reduced told
  pub pairs : Continuous (meaning program) → ReducesPairsTo program reduced told
  pub dual : told.duals ≡ options.dual
  pub transactions : AreTold told
  pub few : (j : ℕ) (side : Side) → tightenings told.undos j side ≤ 10
  pub end : TellsEnd ended options told.undos (replay walked.start walked.history)
  pub names : CarriesNames program reduced told
  pub named : HaveNames program reduced told
  pub ascends : EntriesAscend reduced
  pub writable : Writable options.numbers reduced
  pub ordered : IsInOrder workers → IsMadeInOrder options program reduced told ended

-- the ordered run of the program ends with this verdict, after this history
pub record IsDecidedInOrder (options : Options) (program : ProgramData) (history : List Reduction) (verdict : Verdict) : Type 0 where
  pub book : Ledger
  pub runs : RunsTo options program None book
  pub applied : book.history ≡ history
  pub closed : book.verdict ≡ Some verdict

-- A program was decided: the reductions of the history can be applied one after the other, from the program's problem on, and the verdict
-- is enabled on what they leave. It means of the program what it says. Where the workers' run is in order, all of that is as the ordered run
-- has it.
pub record Decided (options : Options) (workers : Workers) (program : ProgramData) (history : List Reduction) (verdict : Verdict) : Type 0 where
  pub start : Sparse
  pub opened : IsProblemOf program start
  pub replays : Replays options.numbers start history
  pub within : length history ≤ options.limit
  pub enabled : enabled_on (replay start history) (at.Verdict verdict) ≡ true
  pub means : Meant verdict program.sense (meaning program)
  pub ordered : IsInOrder workers → IsDecidedInOrder options program history verdict
