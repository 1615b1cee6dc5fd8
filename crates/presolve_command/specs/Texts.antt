-- The texts that a presolve writes and prints.
use Rattle.std.specs.Prelude.{◌≡◌, ℕ, true, false, List, None, Result, Ok, Err}
use Rattle.lp_model.specs.ProgramData.{ProgramData}
use Rattle.lp_model.specs.Meaning.{meaning}
use Rattle.lp_model.specs.Optimality.{Continuous}
use Rattle.lp_model.specs.Verdicts.{NoPoint, NoPointOrEndless}
use Rattle.fractions.specs.declared.Numbers.{Numbers}
use Rattle.mps_profile.specs.Reading.{first_fault}
use Rattle.mps_profile.specs.Program.{program_of}
use Rattle.mps_written_lines.specs.Formats.{free_format}
use Rattle.mps_round_trip.specs.Plain.{Plain}
use Rattle.command_words.specs.declared.words.PresolveOptions.{PresolveOptions}
use Rattle.presolve_model.specs.declared.instance.Reduction.{Reduction}
use Rattle.presolve_model.specs.declared.instance.Verdict.{Verdict}
use Rattle.presolve_model.specs.Accounts.{ReducesPairsTo}
use Rattle.presolve_model.specs.Conclusions.{Concluded, Decided}
use Rattle.presolve_model.specs.Meanings.{says_no_point}
use Rattle.presolve_model.specs.Workers.{Workers}
use Rattle.presolve_model.specs.declared.conclusion.Options.{Options}
use Rattle.mps_writer.specs.MpsText.{mps_text}
use Rattle.record_values.specs.declared.version.TextVersion.TheVariants.{Second}
use Rattle.record_file.specs.RecordText.{record_text}
use Rattle.record_round_trip.specs.Ranges.{HasRange}
use Rattle.whole_way.specs.Texts.{TextsFit}
use Rattle.presolve_report.specs.Outcomes.{Outcome, Tells}
use Rattle.presolve_report.specs.Report.{report_text}
use Rattle.ray_file.specs.Telling.{StopsAt, TellsRay}
use Rattle.endings.specs.Continuity.{NamesFirstNotContinuous}
use Rattle.endings.specs.Forms.{form_of, numbers_of}
use Rattle.endings.specs.ProgramTexts.{HasNoFault, IsFaultOf, IsProgramOf, program_in}
use Rattle.presolve_command.specs.declared.reduce.Texts.{Texts}
use Rattle.presolve_command.specs.declared.reduce.NotReduced.{NotReduced}
use Rattle.presolve_command.specs.declared.reduce.NotReduced.TheVariants.{Fault, NotContinuous, Infeasible, UnboundedOrInfeasible, NoMemory}

-- the texts of an outcome
pub record AreTexts (outcome : Outcome) (program records printed : List ℕ) : Type 0 where
  pub tells : Tells outcome
  pub program_text : program ≡ mps_text outcome.program
  pub records_text : records ≡ record_text Second outcome.records
  pub printed_text : printed ≡ report_text outcome.report

-- a text in free format has no fault, and is that of this program
pub record TextReads (numbers : Numbers) (text : List ℕ) (program : ProgramData) : Type 0 where
  pub sound : first_fault (free_format numbers) text ≡ None
  pub same : program_of (free_format numbers) text ≡ program

-- where the names of what was read are plain, the program's text is read as this program
abbrev pub ReadsBack : Numbers → Outcome → List ℕ → Type 0
ReadsBack numbers outcome text = Plain outcome.source → TextReads numbers text outcome.program

-- where the names of what was read are plain, postsolve reads both texts as this program and these records, which go together
abbrev pub ComesBack : Outcome → List ℕ → List ℕ → Type 0
ComesBack outcome program records = Plain outcome.source → TextsFit outcome.program outcome.records program records

-- where duals are asked for, no column of the program has to be whole or is semi-continuous
abbrev pub IsTaken : Options → ProgramData → Type 0
IsTaken options program = options.dual ≡ true → Continuous (meaning program)

-- duals are asked for, and this line names the first column of the program that has to be whole or is semi-continuous
abbrev pub IsNotTaken : Options → ProgramData → List ℕ → Type 0
IsNotTaken options program said = (options.dual ≡ true) × NamesFirstNotContinuous program said

-- presolve, told this, concludes by these workers this outcome of its program, and these are its texts, which read back; the records' numbers have room.
-- Where duals are asked for, the records bring back what meets the optimality conditions of what is left
pub record IsConcluded (options : Options) (workers : Workers) (outcome : Outcome) (program records printed : List ℕ) : Type 0 where
  pub taken : IsTaken options outcome.source
  pub concluded : Concluded options workers outcome.source outcome.program outcome.records outcome.report.end
  pub pairs : options.dual ≡ true → ReducesPairsTo outcome.source outcome.program outcome.records
  pub range : HasRange outcome.records
  pub texts : AreTexts outcome program records printed
  pub reads_back : ReadsBack options.numbers outcome program
  pub comes_back : ComesBack outcome program records

-- presolve, told this, decides by these workers the program, by a verdict that says that no point is feasible: none is
pub record ProgramIsInfeasible (options : Options) (workers : Workers) (program : ProgramData) : Type 0 where
  pub taken : IsTaken options program
  pub history : List Reduction
  pub verdict : Verdict
  pub decided : Decided options workers program history verdict
  pub says : says_no_point verdict ≡ true
  pub no_point : NoPoint (meaning program)

-- presolve, told this, decides by these workers the program, by a verdict of the other kind: each feasible point, if there is one, gives others of any cost
pub record ProgramIsUnboundedOrInfeasible (options : Options) (workers : Workers) (program : ProgramData) : Type 0 where
  pub taken : IsTaken options program
  pub history : List Reduction
  pub verdict : Verdict
  pub decided : Decided options workers program history verdict
  pub says : says_no_point verdict ≡ false
  pub endless : NoPointOrEndless program.sense (meaning program)

-- that is found by this history and this verdict
abbrev pub ProgramIsInfeasibleBy : Options → Workers → ProgramData → List Reduction → Verdict → Type 0
ProgramIsInfeasibleBy options workers program history verdict =
    (found : ProgramIsInfeasible options workers program) × (found.history ≡ history) × (found.verdict ≡ verdict)

-- what is made of a program: the texts of an outcome of it, or that it is not taken, or decided, in one way or the other
abbrev pub IsMade : Options → Workers → ProgramData → Result Texts NotReduced → Type 0
IsMade options workers program (Ok texts) =
    (outcome : Outcome) × (outcome.source ≡ program) × IsConcluded options workers outcome texts.program.items texts.records.items texts.report.items
IsMade options workers program (Err (Fault fault)) = ⊥
IsMade options workers program (Err (NotContinuous line)) = IsNotTaken options program line.items
IsMade options workers program (Err (Infeasible made)) = ProgramIsInfeasibleBy options workers program made.history.items made.verdict
IsMade options workers program (Err UnboundedOrInfeasible) = ProgramIsUnboundedOrInfeasible options workers program
IsMade options workers program (Err NoMemory) = Unit {0}

-- what presolve is told by the words
abbrev pub options_for : PresolveOptions → Options
options_for options = record { numbers = numbers_of options; limit = options.limit; dual = options.dual }

-- the workers among whom the words have the work shared out
abbrev pub workers_for : PresolveOptions → Workers
workers_for options = record { threads = options.threads; ordered = options.ordered }

-- a text has no fault, and its program is not taken: this line names its first column that has to be whole or is semi-continuous
abbrev pub TextIsNotTaken : PresolveOptions → List ℕ → List ℕ → Type 0
TextIsNotTaken options text said =
    HasNoFault (form_of options) text × IsNotTaken (options_for options) (program_in (form_of options) text) said

-- a text has no fault, and its program is found to have no feasible point
abbrev pub TextIsInfeasible : PresolveOptions → List ℕ → Type 0
TextIsInfeasible options text =
    HasNoFault (form_of options) text × ProgramIsInfeasible (options_for options) (workers_for options) (program_in (form_of options) text)

-- that is found by this history and this verdict
abbrev pub TextIsInfeasibleBy : PresolveOptions → List ℕ → List Reduction → Verdict → Type 0
TextIsInfeasibleBy options text history verdict =
    HasNoFault (form_of options) text × ProgramIsInfeasibleBy (options_for options) (workers_for options) (program_in (form_of options) text) history verdict

-- the same, and what is written holds a ray of its program: that of the verdict, taken back over the history
abbrev pub TextHasRay : PresolveOptions → List ℕ → List ℕ → Type 0
TextHasRay options text written = HasNoFault (form_of options) text
    × ((found : ProgramIsInfeasible (options_for options) (workers_for options) (program_in (form_of options) text))
    × TellsRay (program_in (form_of options) text) found.history found.verdict written)

-- the same, and a number of that ray has no room, where this record is undone
abbrev pub TextLacksRay : PresolveOptions → List ℕ → ℕ → Type 0
TextLacksRay options text at = HasNoFault (form_of options) text
    × ((found : ProgramIsInfeasible (options_for options) (workers_for options) (program_in (form_of options) text))
    × StopsAt (program_in (form_of options) text) found.history found.verdict at)

-- a text has no fault, and its program is found to have no feasible point, or none of least cost
abbrev pub TextIsUnboundedOrInfeasible : PresolveOptions → List ℕ → Type 0
TextIsUnboundedOrInfeasible options text =
    HasNoFault (form_of options) text × ProgramIsUnboundedOrInfeasible (options_for options) (workers_for options) (program_in (form_of options) text)

-- what is made of a text: the texts of an outcome of its program, that this is not taken, or decided, in one way or the other, or the
-- text's first fault
abbrev pub IsReduced : PresolveOptions → List ℕ → Result Texts NotReduced → Type 0
IsReduced options text (Ok texts) =
    (outcome : Outcome) × IsProgramOf (form_of options) text outcome.source
    × IsConcluded (options_for options) (workers_for options) outcome texts.program.items texts.records.items texts.report.items
IsReduced options text (Err (Fault fault)) = IsFaultOf (form_of options) text fault
IsReduced options text (Err (NotContinuous line)) = TextIsNotTaken options text line.items
IsReduced options text (Err (Infeasible made)) = TextIsInfeasibleBy options text made.history.items made.verdict
IsReduced options text (Err UnboundedOrInfeasible) = TextIsUnboundedOrInfeasible options text
IsReduced options text (Err NoMemory) = Unit {0}
