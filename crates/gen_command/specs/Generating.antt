-- What `gen` prints of the program that its numbers make.
use Rattle.std.specs.Prelude.{◌≡◌, ◌==◌, ℕ, false, List, [], ◌∷◌, ◌++◌, codes, length}
use Rattle.std.specs.Fmt.{decimal}
use Rattle.file_ports.specs.Ports.{Moment}
use Rattle.fractions.specs.declared.Numbers.TheVariants.{Decimal}
use Rattle.lp_model.specs.ProgramData.{ProgramData}
use Rattle.lp_gen.specs.Generated.{generated}
use Rattle.command_words.specs.declared.words.GenNumbers.{GenNumbers}
use Rattle.command_words.specs.declared.words.TheConstants.{MOST_RECORDS}
use Rattle.presolve_model.specs.Conclusions.{Concluded}
use Rattle.presolve_model.specs.Ordered.{IsMadeInOrder}
use Rattle.presolve_model.specs.Workers.{one_worker}
use Rattle.presolve_model.specs.declared.conclusion.Options.{Options}
use Rattle.presolve_report.specs.Outcomes.{entries_of, Outcome, Tells}
use Rattle.presolve_report.specs.Report.{report_text}
use Rattle.endings.specs.Ending.{When, no_memory_line}
use Rattle.endings.specs.Moments.{IsQuiet}

-- the options of a presolve that is given none
abbrev pub default_options : Options
default_options = record { numbers = Decimal; limit = MOST_RECORDS; dual = false }

-- the line that says how large the program is
abbrev pub generated_line : ProgramData → List ℕ
generated_line program =
    codes "generated rows " ++ (decimal (length program.rows)
    ++ (codes " columns " ++ (decimal (length program.columns)
    ++ (codes " entries " ++ (decimal (entries_of program) ++ 10 ∷ [])))))

-- the program was made of the numbers; one worker reduced it, with no option given, as the ordered run does; and its size is printed, and the report behind it
pub record IsGenerated (numbers : GenNumbers) (printed : List ℕ) : Type 0 where
  pub outcome : Outcome
  pub source : outcome.source ≡ generated numbers.seed numbers.rows numbers.columns
  pub concluded : Concluded default_options one_worker outcome.source outcome.program outcome.records outcome.report.end
  pub in_order : IsMadeInOrder default_options outcome.source outcome.program outcome.records outcome.report.end
  pub tells : Tells outcome
  pub text : printed ≡ generated_line outcome.source ++ report_text outcome.report

-- what `gen` says at a status, with what it prints
abbrev pub SaysGen : GenNumbers → ℕ → List ℕ → Type 0
SaysGen numbers status printed =
    When (status == 0) (IsGenerated numbers printed)
    (When (status == 5) (printed ≡ no_memory_line)
    ⊥)

-- the same; and no name tells anything else
pub record EndsGen (numbers : GenNumbers) (status : ℕ) (printed : List ℕ) (before now : Moment) : Type 0 where
  pub says : SaysGen numbers status printed
  pub quiet : IsQuiet before now
