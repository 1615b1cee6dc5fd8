-- What a presolve says of the files before and after it, by its status and what it prints.
use Rattle.std.specs.Prelude.{◌≡◌, ◌≢◌, ◌⊎◌, ℕ, ◌==◌, List, Option, Some, None}
use Rattle.file_ports.specs.Ports.{Moment, Unsettled, KeepsOthers, Written}
use Rattle.command_words.specs.Names.{PresolveNames}
use Rattle.endings.specs.Forms.{form_of}
use Rattle.endings.specs.Ending.{When, infeasible_line, no_memory_line, read_fault_line, unbounded_line, write_fault_line}
use Rattle.endings.specs.Moments.{FailsToRead, FailsToWrite, IsQuiet, IsThere, KeepsAllBut, Reads}
use Rattle.endings.specs.ProgramTexts.{IsProgramOf, SaysFaultOf}
use Rattle.endings.specs.declared.reads.TheConstants.{INPUT_LIMIT}
use Rattle.presolve_model.specs.Workers.{IsInOrder}
use Rattle.presolve_report.specs.Outcomes.{Outcome}
use Rattle.presolve_command.specs.Texts.{IsConcluded, options_for, TextHasRay, TextIsInfeasible, TextIsNotTaken, TextIsUnboundedOrInfeasible, TextLacksRay, workers_for}
use Rattle.ray_file.specs.Telling.{past_lines}

-- one worker is asked for, or that the run is in order: what presolve concludes is what comes of the ordered run then
abbrev pub IsDoneInOrder : PresolveNames → Type 0
IsDoneInOrder names = IsInOrder (workers_for names.options)

-- IN's text has no fault; presolve concluded some outcome of its program, with these texts
pub record IsMadeOf (names : PresolveNames) (program records printed : List ℕ) (before : Moment) : Type 0 where
  pub outcome : Outcome
  pub source : Reads INPUT_LIMIT (before.told names.input) (λ text. IsProgramOf (form_of names.options) text outcome.source)
  pub concluded : IsConcluded (options_for names.options) (workers_for names.options) outcome program records printed

-- both texts were written, and the report goes with them; no other name changed
pub record IsPresolved (names : PresolveNames) (printed : List ℕ) (before now : Moment) : Type 0 where
  pub program : List ℕ
  pub records : List ℕ
  pub made : IsMadeOf names program records printed before
  pub program_written : Written (before.told names.output) (now.told names.output) program
  pub records_written : Written (before.told names.records) (now.told names.records) records
  pub others : KeepsAllBut before.told now.told names.output names.records

-- what is said of IN's text
abbrev pub SaysFault : PresolveNames → List ℕ → Moment → Moment → Type 0
SaysFault names said before now = SaysFaultOf INPUT_LIMIT (form_of names.options) names.input said before now

-- `--dual` was given, IN's text has no fault, and this line names the first column of its program that has to be whole or is semi-continuous
abbrev pub SaysNotTaken : PresolveNames → List ℕ → Moment → Type 0
SaysNotTaken names said before = Reads INPUT_LIMIT (before.told names.input) (λ text. TextIsNotTaken names.options text said)

-- this is said of IN's text, or of a column that has to be whole or is semi-continuous
abbrev pub RefusesProgram : PresolveNames → List ℕ → Moment → Moment → Type 0
RefusesProgram names said before now = SaysFault names said before now ⊎ SaysNotTaken names said before

-- IN's text has no fault, and its program is decided: it has no feasible point
abbrev pub IsInfeasible : PresolveNames → Moment → Type 0
IsInfeasible names before = Reads INPUT_LIMIT (before.told names.input) (λ text. TextIsInfeasible names.options text)

-- the same, and it has no feasible point, or none of least cost
abbrev pub IsUnboundedOrInfeasible : PresolveNames → Moment → Type 0
IsUnboundedOrInfeasible names before = Reads INPUT_LIMIT (before.told names.input) (λ text. TextIsUnboundedOrInfeasible names.options text)

-- the same, and this text holds a ray of the program
abbrev pub IsProved : PresolveNames → List ℕ → Moment → Type 0
IsProved names text before = Reads INPUT_LIMIT (before.told names.input) (λ held. TextHasRay names.options held text)

-- the same, and a number of the ray has no room where this record is undone
abbrev pub IsUnproved : PresolveNames → ℕ → Moment → Type 0
IsUnproved names at before = Reads INPUT_LIMIT (before.told names.input) (λ held. TextLacksRay names.options held at)

-- a text that holds a ray of the program was written to RAY, and no other name changed
abbrev pub WritesRay : PresolveNames → List ℕ → Moment → Moment → Type 0
WritesRay names ray before now = (text : List ℕ) × IsProved names text before × Written (before.told ray) (now.told ray) text × KeepsOthers before.told now.told ray

-- IN's program has no feasible point. Where RAY is asked for, it was written; or a number of the ray has no room, which is said.
abbrev pub SaysInfeasible : Option (List ℕ) → PresolveNames → List ℕ → Moment → Moment → Type 0
SaysInfeasible None names printed before now = IsInfeasible names before × IsQuiet before now × (printed ≡ infeasible_line)
SaysInfeasible (Some ray) names printed before now = (WritesRay names ray before now × (printed ≡ infeasible_line))
    ⊎ ((at : ℕ) × IsUnproved names at before × IsQuiet before now × (printed ≡ past_lines at))

-- a write of a name failed: what it tells is not told, or as before
abbrev pub FailsAt : List ℕ → Moment → Moment → Type 0
FailsAt name before now = FailsToWrite name before now × Unsettled (before.told name) (now.told name)

-- Of two writes one failed: the first, and all other names stand; or the second, and the first text was written.
abbrev pub FailsBetween : List ℕ → List ℕ → List ℕ → Moment → Moment → Type 0
FailsBetween first text second before now =
    (KeepsOthers before.told now.told first × FailsAt first before now)
    ⊎ (Written (before.told first) (now.told first) text × FailsAt second before now × KeepsAllBut before.told now.told first second)

-- what would have been written was made, and one of the two writes failed
abbrev pub AreUnwritten : PresolveNames → Moment → Moment → Type 0
AreUnwritten names before now = (program records printed : List ℕ) × IsMadeOf names program records printed before
    × FailsBetween names.output program names.records before now

-- a text that holds a ray of the program was made, and the write of RAY failed
abbrev pub IsRayUnwritten : Option (List ℕ) → PresolveNames → Moment → Moment → Type 0
IsRayUnwritten None names before now = ⊥
IsRayUnwritten (Some ray) names before now = (text : List ℕ) × IsProved names text before × KeepsOthers before.told now.told ray × FailsAt ray before now

abbrev pub IsUnwritten : PresolveNames → Moment → Moment → Type 0
IsUnwritten names before now = AreUnwritten names before now ⊎ IsRayUnwritten names.ray names before now

-- what a presolve says at a status, with what it prints
abbrev pub SaysPresolve : PresolveNames → ℕ → List ℕ → Moment → Moment → Type 0
SaysPresolve names status printed before now =
    When (status == 0) (IsPresolved names printed before now)
    (When (status == 2) (RefusesProgram names printed before now × IsQuiet before now)
    (When (status == 3) (FailsToRead names.input before now × IsQuiet before now × (printed ≡ read_fault_line))
    (When (status == 4) (IsUnwritten names before now × (printed ≡ write_fault_line))
    (When (status == 5) (IsQuiet before now × (printed ≡ no_memory_line))
    (When (status == 20) (SaysInfeasible names.ray names printed before now)
    (When (status == 21) (IsUnboundedOrInfeasible names before × IsQuiet before now × (printed ≡ unbounded_line))
    ⊥))))))

-- the same; and where IN could be read, it isn't told as missing
pub record EndsPresolve (names : PresolveNames) (status : ℕ) (printed : List ℕ) (before now : Moment) : Type 0 where
  pub says : SaysPresolve names status printed before now
  pub read : status ≢ 3 → status ≢ 5 → IsThere (before.told names.input)
