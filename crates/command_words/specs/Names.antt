-- The commands of the program, with the names, options and numbers that they are given.
use Rattle.std.specs.Prelude.{◌≡◌, ◌≢◌, ◌≤◌, ℕ, List, Bool, true, Option, IfSome}
use Rattle.command_words.specs.declared.words.InputFormat.{InputFormat}
use Rattle.command_words.specs.declared.words.PresolveOptions.{PresolveOptions}
use Rattle.command_words.specs.declared.words.GenNumbers.{GenNumbers}
use Rattle.command_words.specs.declared.words.TheConstants.{MOST_LINES, MOST_PIVOTS, MOST_RECORDS, MOST_THREADS}

-- bytes
abbrev pub Text : Type 0
Text = List ℕ

-- the names that presolve works on, and the options
pub record PresolveNames : Type 0 where
  pub input : Text
  pub output : Text
  pub records : Text
  pub ray : Option Text
  pub options : PresolveOptions

-- the names that check works on, the format of IN, and whether SOL's numbers may have any width
pub record CheckNames : Type 0 where
  pub input : Text
  pub solution : Text
  pub format : InputFormat
  pub wide : Bool

-- the names that postsolve works on, and whether SOL's numbers may have any width
pub record PostsolveNames : Type 0 where
  pub program : Text
  pub records : Text
  pub solution : Text
  pub result : Text
  pub wide : Bool

-- the names that migrate works on
pub record MigrateNames : Type 0 where
  pub records : Text
  pub written : Text

-- the names that verify works on, and the format of IN
pub record VerifyNames : Type 0 where
  pub input : Text
  pub output : Text
  pub records : Text
  pub format : InputFormat

-- the names that solve works on, how many pivots it may make, and whether IN has the fixed format
pub record SolveNames : Type 0 where
  pub input : Text
  pub solution : Text
  pub pivots : ℕ
  pub fixed : Bool

-- a command with its names
pub data Request : Type 0 where
  Presolve : PresolveNames → Request
  Check : CheckNames → Request
  Postsolve : PostsolveNames → Request
  Migrate : MigrateNames → Request
  Verify : VerifyNames → Request
  Solve : SolveNames → Request
  Gen : GenNumbers → Request

-- RAY is asked for with duals and of a run in order, and is neither OUT nor REC
pub record HasPlaceForRay (options : PresolveOptions) (output records ray : Text) : Type 0 where
  pub dual : options.dual ≡ true
  pub ordered : options.ordered ≡ true
  pub off_output : ray ≢ output
  pub off_records : ray ≢ records

-- OUT and REC of presolve differ, and RAY from both; and so do REC and NEW of migrate, and IN and SOL of solve
abbrev pub NamesDiffer : Request → Type 0
NamesDiffer (Presolve names) = (names.output ≢ names.records) × IfSome names.ray (HasPlaceForRay names.options names.output names.records)
NamesDiffer (Check names) = Unit {0}
NamesDiffer (Postsolve names) = Unit {0}
NamesDiffer (Migrate names) = names.records ≢ names.written
NamesDiffer (Verify names) = Unit {0}
NamesDiffer (Solve names) = names.input ≢ names.solution
NamesDiffer (Gen numbers) = Unit {0}

-- presolve may make at least one record and has at least one thread, and no more than the most of each
pub record AreInRange (options : PresolveOptions) : Type 0 where
  pub some_records : 1 ≤ options.limit
  pub few_records : options.limit ≤ MOST_RECORDS
  pub some_threads : 1 ≤ options.threads
  pub few_threads : options.threads ≤ MOST_THREADS

-- a program is made with at least one row and one column, and with no more than the most
pub record IsSize (numbers : GenNumbers) : Type 0 where
  pub some_rows : 1 ≤ numbers.rows
  pub few_rows : numbers.rows ≤ MOST_LINES
  pub some_columns : 1 ≤ numbers.columns
  pub few_columns : numbers.columns ≤ MOST_LINES

-- the numbers that a command is given are in range
abbrev pub HasRange : Request → Type 0
HasRange (Presolve names) = AreInRange names.options
HasRange (Check names) = Unit {0}
HasRange (Postsolve names) = Unit {0}
HasRange (Migrate names) = Unit {0}
HasRange (Verify names) = Unit {0}
HasRange (Solve names) = (1 ≤ names.pivots) × (names.pivots ≤ MOST_PIVOTS)
HasRange (Gen numbers) = IsSize numbers
