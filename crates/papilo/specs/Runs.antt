-- How a run ends, by what its words ask for: its status, what it prints, and what it does to files.
use Rattle.std.specs.Prelude.{◌≡◌, ◌≢◌, ◌⊎◌, ◌==◌, ℕ, false, List, Option, Some, None, IfSome}
use Rattle.file_ports.specs.Ports.{Moment, Rose, Grown, GrownInPart, KeepsOthers}
use Rattle.command_words.specs.Names.{PresolveNames, Request, Presolve, Check, Postsolve, Migrate, Verify, Solve, Gen}
use Rattle.command_app.specs.Line.{is_taken}
use Rattle.command_line.specs.Line.{selected}
use Rattle.endings.specs.Ending.{When, no_memory_line, usage_line}
use Rattle.endings.specs.Moments.{IsQuiet, IsThere}
use Rattle.presolve_command.specs.Presolved as presolve
use Rattle.check_command.specs.Checked as check
use Rattle.postsolve_command.specs.Postsolved as postsolve
use Rattle.migrate_command.specs.Migrated as migrate
use Rattle.verify_command.specs.Verifying as verify
use Rattle.solve_command.specs.Solving as solve
use Rattle.gen_command.specs.Generating as gen

-- what a run says at a status, with what it prints; the words that ask for nothing are refused
abbrev pub Ends : Option Request → ℕ → List ℕ → Moment → Moment → Type 0
Ends None status printed before now =
    When (status == 1) (IsQuiet before now × (printed ≡ usage_line))
    (When (status == 5) (IsQuiet before now × (printed ≡ no_memory_line))
    ⊥)
Ends (Some (Presolve names)) status printed before now = presolve.EndsPresolve names status printed before now
Ends (Some (Check names)) status printed before now = check.EndsCheck names status printed before now
Ends (Some (Postsolve names)) status printed before now = postsolve.EndsPostsolve names status printed before now
Ends (Some (Migrate names)) status printed before now = migrate.EndsMigrate names status printed before now
Ends (Some (Verify names)) status printed before now = verify.EndsVerify names status printed before now
Ends (Some (Solve names)) status printed before now = solve.EndsSolve names status printed before now
Ends (Some (Gen numbers)) status printed before now = gen.EndsGen numbers status printed before now

-- The sink took all that is printed, and the run answers the status; or the sink failed, having taken a prefix, and the run answers 4.
abbrev pub Prints : ℕ → ℕ → List ℕ → Option (List ℕ) → Option (List ℕ) → ℕ → ℕ → Type 0
Prints answer status printed old new before now =
    ((answer ≡ status) × Grown old new printed) ⊎ ((answer ≡ 4) × GrownInPart old new printed × Rose before now)

-- a write failed of what the words ask to write
abbrev pub IsUnwritten : Option Request → Moment → Moment → Type 0
IsUnwritten None before now = ⊥
IsUnwritten (Some (Presolve names)) before now = presolve.IsUnwritten names before now
IsUnwritten (Some (Check names)) before now = ⊥
IsUnwritten (Some (Postsolve names)) before now = postsolve.IsUnwritten names before now
IsUnwritten (Some (Migrate names)) before now = migrate.IsUnwritten names before now
IsUnwritten (Some (Verify names)) before now = ⊥
IsUnwritten (Some (Solve names)) before now = solve.IsUnwritten names before now
IsUnwritten (Some (Gen numbers)) before now = ⊥

-- all names tell what they told but OUT, REC, and RAY where it is asked for
abbrev pub KeepsBeside : PresolveNames → Moment → Moment → Type 0
KeepsBeside names before now = (other : List ℕ) → other ≢ names.output → other ≢ names.records → IfSome names.ray (λ ray. other ≢ ray) → now.told other ≡ before.told other

-- RAY, where a presolve is asked for it
abbrev pub ray_asked : Option Request → Option (List ℕ)
ray_asked None = None
ray_asked (Some (Presolve names)) = names.ray
ray_asked (Some (Check names)) = None
ray_asked (Some (Postsolve names)) = None
ray_asked (Some (Migrate names)) = None
ray_asked (Some (Verify names)) = None
ray_asked (Some (Solve names)) = None
ray_asked (Some (Gen numbers)) = None

-- no name tells anything else, but that one, if there is one
abbrev pub IsQuietBut : Option (List ℕ) → Moment → Moment → Type 0
IsQuietBut None before now = IsQuiet before now
IsQuietBut (Some name) before now = KeepsOthers before.told now.told name

-- all names tell what they told but those that the words ask to write
abbrev pub KeepsUnasked : Option Request → Moment → Moment → Type 0
KeepsUnasked None before now = IsQuiet before now
KeepsUnasked (Some (Presolve names)) before now = KeepsBeside names before now
KeepsUnasked (Some (Check names)) before now = IsQuiet before now
KeepsUnasked (Some (Postsolve names)) before now = KeepsOthers before.told now.told names.result
KeepsUnasked (Some (Migrate names)) before now = KeepsOthers before.told now.told names.written
KeepsUnasked (Some (Verify names)) before now = IsQuiet before now
KeepsUnasked (Some (Solve names)) before now = KeepsOthers before.told now.told names.solution
KeepsUnasked (Some (Gen numbers)) before now = IsQuiet before now

-- no name that the words ask to read is told as missing
abbrev pub AreThere : Option Request → Moment → Type 0
AreThere None before = Unit {0}
AreThere (Some (Presolve names)) before = IsThere (before.told names.input)
AreThere (Some (Check names)) before = IsThere (before.told names.input) × IsThere (before.told names.solution)
AreThere (Some (Postsolve names)) before = IsThere (before.told names.program) × IsThere (before.told names.records) × IsThere (before.told names.solution)
AreThere (Some (Migrate names)) before = IsThere (before.told names.records)
AreThere (Some (Verify names)) before = IsThere (before.told names.input) × IsThere (before.told names.output) × IsThere (before.told names.records)
AreThere (Some (Solve names)) before = IsThere (before.told names.input)
AreThere (Some (Gen numbers)) before = Unit {0}

-- clap does not take the words, or there is no command with its names in what it finds in them, or two names are one that have to differ, or two
-- formats are given
abbrev pub AreRefused : List (List ℕ) → Type 0
AreRefused words = (is_taken words ≡ false) ⊎ (selected words ≡ None)
