-- The same words and the same bytes, at two times.
use Rattle.std.specs.Prelude.{◌≡◌, ◌≢◌, ℕ, List, IfSome}
use Rattle.file_ports.specs.Ports.{Moment}
use Rattle.command_words.specs.Names.{CheckNames, MigrateNames, PostsolveNames, PresolveNames}
use Rattle.endings.specs.Ending.{infeasible_line}
use Rattle.presolve_command.specs.Presolved.{EndsPresolve, IsDoneInOrder}
use Rattle.check_command.specs.Checked.{EndsCheck}
use Rattle.postsolve_command.specs.Postsolved.{EndsPostsolve}
use Rattle.migrate_command.specs.Migrated.{EndsMigrate}
use Rattle.command_words.specs.declared.words.GenNumbers.{GenNumbers}
use Rattle.gen_command.specs.Generating.{EndsGen}
use Rattle.two_runs.specs.Runs.{Holds}

-- a name holds the same bytes at both moments
abbrev pub HoldsTheSame : Moment → Moment → List ℕ → Type 0
HoldsTheSame one other name = (bytes : List ℕ) × Holds one name bytes × Holds other name bytes

-- what a run says at this status is said of bytes: no read failed, no write, and memory did not run out
pub record IsOfBytes (status : ℕ) : Type 0 where
  pub read : status ≢ 3
  pub written : status ≢ 4
  pub made : status ≢ 5

-- a name holds the same after both, where it holds bytes after both
abbrev pub LeaveTheSame : Moment → Moment → List ℕ → Type 0
LeaveTheSame one other name = (bytes more : List ℕ) → Holds one name bytes → Holds other name more → bytes ≡ more

-- presolve of the same IN ends alike, prints the same, and where it reduced the program leaves the same OUT and REC. Where it says no more
-- than that no point is feasible, it wrote the RAY that it was asked for, and leaves the same RAY.
pub record PresolvesAlike (names : PresolveNames) (s t : ℕ) (said more : List ℕ) (now later : Moment) : Type 0 where
  pub status : s ≡ t
  pub printed : said ≡ more
  pub output : s ≡ 0 → LeaveTheSame now later names.output
  pub records : s ≡ 0 → LeaveTheSame now later names.records
  pub ray : s ≡ 20 → said ≡ infeasible_line → IfSome names.ray (LeaveTheSame now later)

abbrev pub PresolvesAreOne : Type 0
PresolvesAreOne = (names : PresolveNames) → IsDoneInOrder names → (s t : ℕ) (said more : List ℕ) (before now then later : Moment)
    → HoldsTheSame before then names.input
    → IsOfBytes s
    → IsOfBytes t
    → EndsPresolve names s said before now
    → EndsPresolve names t more then later
    → PresolvesAlike names s t said more now later

-- check of the same IN and SOL ends alike and prints the same, be SOL a solution or a ray
abbrev pub ChecksAreOne : Type 0
ChecksAreOne = (names : CheckNames) (s t : ℕ) (said more : List ℕ) (before now then later : Moment)
    → HoldsTheSame before then names.input
    → HoldsTheSame before then names.solution
    → IsOfBytes s
    → IsOfBytes t
    → EndsCheck names s said before now
    → EndsCheck names t more then later
    → (s ≡ t) × (said ≡ more)

-- postsolve of the same OUT, REC and SOL ends alike, prints the same, and where it brought SOL back leaves the same RESULT
pub record PostsolvesAlike (names : PostsolveNames) (s t : ℕ) (said more : List ℕ) (now later : Moment) : Type 0 where
  pub status : s ≡ t
  pub printed : said ≡ more
  pub result : s ≡ 0 → LeaveTheSame now later names.result

abbrev pub PostsolvesAreOne : Type 0
PostsolvesAreOne = (names : PostsolveNames) (s t : ℕ) (said more : List ℕ) (before now then later : Moment)
    → HoldsTheSame before then names.program
    → HoldsTheSame before then names.records
    → HoldsTheSame before then names.solution
    → IsOfBytes s
    → IsOfBytes t
    → EndsPostsolve names s said before now
    → EndsPostsolve names t more then later
    → PostsolvesAlike names s t said more now later

-- migrate of the same REC ends alike, prints the same, and where it wrote leaves the same NEW
pub record MigratesAlike (names : MigrateNames) (s t : ℕ) (said more : List ℕ) (now later : Moment) : Type 0 where
  pub status : s ≡ t
  pub printed : said ≡ more
  pub written : s ≡ 0 → LeaveTheSame now later names.written

abbrev pub MigratesAreOne : Type 0
MigratesAreOne = (names : MigrateNames) (s t : ℕ) (said more : List ℕ) (before now then later : Moment)
    → HoldsTheSame before then names.records
    → IsOfBytes s
    → IsOfBytes t
    → EndsMigrate names s said before now
    → EndsMigrate names t more then later
    → MigratesAlike names s t said more now later

-- gen of the same numbers ends alike and prints the same, where memory did not run out
abbrev pub GensAreOne : Type 0
GensAreOne = (numbers : GenNumbers) (s t : ℕ) (said more : List ℕ) (before now then later : Moment)
    → s ≢ 5
    → t ≢ 5
    → EndsGen numbers s said before now
    → EndsGen numbers t more then later
    → (s ≡ t) × (said ≡ more)
