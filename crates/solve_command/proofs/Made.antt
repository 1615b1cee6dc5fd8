-- What is made of IN's text, by what a read found of it.
use Rattle.std.proofs.Common.{◌≡◌, ℕ, List, inl, inr, Option, Some, None, Result, Ok, Err, refl, sym, subst}
use Rattle.file_ports.specs.Ports.{Moment}
use Rattle.command_words.specs.Names.{SolveNames}
use Rattle.lp_model.specs.Meaning.{meaning}
use Rattle.lp_model.specs.Optimality.{Continuous}
use Rattle.lp_model.specs.ProgramData.{ProgramData}
use Rattle.endings.specs.declared.ending.Ending.{Ending}
use Rattle.endings.specs.declared.ending.Ending.TheVariants.{Done, Usage, Refused, ReadFault, WriteFault, NoMemory, NoRoom, RecordsRefused, SolutionRefused, Violated, Spent, Infeasible, RayPast, UnboundedOrInfeasible, Unbounded}
use Rattle.endings.specs.declared.forms.Form.{Form}
use Rattle.endings.specs.Ending.{status_of, text_of}
use Rattle.endings.specs.Moments.{Finds, IfFound, IsQuiet}
use Rattle.endings.specs.ProgramTexts.{IsFaultOf, IsProgramOf}
use Rattle.endings.specs.declared.reads.TheConstants.{INPUT_LIMIT}
use Rattle.endings.proofs.Earlier.{found_reads, given_reads}
use Rattle.solve_command.specs.Given.{Faults, GivesContinuous, IsNotTaken}
use Rattle.solve_command.specs.Solving.{AnswersSo, IsMade, IsProgramIn, RefusesProgram, SaysSolve, SaysUnsolved, solve_form, EndsWithout}
use Rattle.solve_command.specs.declared.answer.Texts.{Texts}
use Rattle.solve_command.specs.declared.refusal.Unsolved.{Unsolved}
use Rattle.solve_command.specs.declared.refusal.Unsolved.TheVariants as unsolved

-- ---- the program
pub program_in : (names : SolveNames) (before now : Moment) (form : Form) (found : Option (List ℕ)) (program : ProgramData) → form ≡ solve_form names
    → Finds INPUT_LIMIT names.input before now found → IfFound found (λ text. IsProgramOf form text program) → IsProgramIn names before program
program_in names before now form found program is finds has =
    found_reads INPUT_LIMIT names.input before now found (λ text. IsProgramOf (solve_form names) text program) finds
    (subst (λ (f : Form). IfFound found (λ text. IsProgramOf f text program)) is has)

faulty : (names : SolveNames) (before now : Moment) (found : Option (List ℕ)) (said : List ℕ) → Finds INPUT_LIMIT names.input before now found → Faults (solve_form names) found said
    → RefusesProgram names said before now
faulty names before now None said finds says = inl (inr (finds, says))
faulty names before now (Some text) said finds says =
    let fault = says.0 in
    inl (inl (fault, given_reads INPUT_LIMIT (before.told names.input) text (λ t. IsFaultOf (solve_form names) t fault) finds.0 finds.1 says.1, says.2))

refused_line : (names : SolveNames) (before now : Moment) (form : Form) (found : Option (List ℕ)) (ending : Ending) → form ≡ solve_form names
    → Finds INPUT_LIMIT names.input before now found → IsNotTaken form found ending → SaysUnsolved names ending before now
refused_line names before now form found (Refused line) is finds (inl h) = faulty names before now found line.items finds (subst (λ (f : Form). Faults f found line.items) is h)
refused_line names before now form found (Refused line) is finds (inr h) = inr (h.0, program_in names before now form found h.0 is finds h.1, h.2)
refused_line names before now form found (Done text) is finds h = absurd h
refused_line names before now form found Usage is finds h = absurd h
refused_line names before now form found ReadFault is finds h = absurd h
refused_line names before now form found WriteFault is finds h = absurd h
refused_line names before now form found NoMemory is finds h = absurd h
refused_line names before now form found (NoRoom line) is finds h = absurd h
refused_line names before now form found (RecordsRefused line) is finds h = absurd h
refused_line names before now form found (SolutionRefused line) is finds h = absurd h
refused_line names before now form found (Violated line) is finds h = absurd h
refused_line names before now form found Spent is finds h = absurd h
refused_line names before now form found Infeasible is finds h = absurd h
refused_line names before now form found (RayPast lines) is finds h = absurd h
refused_line names before now form found UnboundedOrInfeasible is finds h = absurd h
refused_line names before now form found Unbounded is finds h = absurd h

pub refused : (names : SolveNames) (before now : Moment) (form : Form) (found : Option (List ℕ)) (why : Unsolved) → form ≡ solve_form names
    → Finds INPUT_LIMIT names.input before now found → GivesContinuous form found (Err why) → IsMade names (Err why) before now
refused names before now form found (unsolved.Ends ending) is finds h = refused_line names before now form found ending is finds h
refused names before now form found unsolved.NoMemory is finds h = tt

-- ---- an answer
without : (names : SolveNames) (before now : Moment) (program : ProgramData) (ending : Ending) → IsProgramIn names before program → Continuous (meaning program)
    → EndsWithout program names.pivots ending → SaysUnsolved names ending before now
without names before now program (Refused line) given continuous h = absurd h
without names before now program (Done text) given continuous h = absurd h
without names before now program Usage given continuous h = absurd h
without names before now program ReadFault given continuous h = absurd h
without names before now program WriteFault given continuous h = absurd h
without names before now program NoMemory given continuous h = absurd h
without names before now program (NoRoom line) given continuous h = (program, given, continuous, h)
without names before now program (RecordsRefused line) given continuous h = absurd h
without names before now program (SolutionRefused line) given continuous h = absurd h
without names before now program (Violated line) given continuous h = absurd h
without names before now program Spent given continuous h = (program, given, continuous, h)
without names before now program Infeasible given continuous h = (program, given, continuous, h)
without names before now program (RayPast lines) given continuous h = absurd h
without names before now program UnboundedOrInfeasible given continuous h = absurd h
without names before now program Unbounded given continuous h = (program, given, continuous, h)

made : (names : SolveNames) (before now : Moment) (program : ProgramData) (result : Result Texts Unsolved) → IsProgramIn names before program → Continuous (meaning program)
    → AnswersSo program names.pivots result → IsMade names result before now
made names before now program (Ok texts) given continuous h = (program, given, continuous, h)
made names before now program (Err (unsolved.Ends ending)) given continuous h = without names before now program ending given continuous h
made names before now program (Err unsolved.NoMemory) given continuous h = tt

pub made_at : (names : SolveNames) (before now : Moment) (form : Form) (found : Option (List ℕ)) (program : ProgramData) (most : ℕ) (result : Result Texts Unsolved) → form ≡ solve_form names
    → most ≡ names.pivots → Finds INPUT_LIMIT names.input before now found → GivesContinuous form found (Ok program) → AnswersSo program most result → IsMade names result before now
made_at names before now form found program most result is few finds gives h =
    made names before now program result (program_in names before now form found program is finds gives.0) gives.1 (subst (λ (n : ℕ). AnswersSo program n result) few h)

-- an error that was handed on is that error
pub handed_on : (names : SolveNames) (before now : Moment) (result : Result Texts Unsolved) (given why : Unsolved) → result ≡ Err given → given ≡ why → IsMade names (Err why) before now → IsMade names result before now
handed_on names before now result given why is same h =
    subst (λ (r : Result Texts Unsolved). IsMade names r before now) (sym is) (subst (λ (e : Unsolved). IsMade names (Err e) before now) (sym same) h)

-- ---- as the status has it
pub said_at_status : (names : SolveNames) (before now : Moment) (ending : Ending) → IsQuiet before now → SaysUnsolved names ending before now → SaysSolve names (status_of ending) (text_of ending) before now
said_at_status names before now (Done text) quiet h = absurd h.3
said_at_status names before now Usage quiet h = absurd h.3
said_at_status names before now (Refused line) quiet h = (h, quiet)
said_at_status names before now ReadFault quiet h = absurd h.3
said_at_status names before now WriteFault quiet h = absurd h.3
said_at_status names before now NoMemory quiet h = absurd h.3
said_at_status names before now (NoRoom line) quiet h = (h, quiet)
said_at_status names before now (RecordsRefused line) quiet h = absurd h.3
said_at_status names before now (SolutionRefused line) quiet h = absurd h.3
said_at_status names before now (Violated line) quiet h = absurd h.3
said_at_status names before now Spent quiet h = (h, quiet, refl)
said_at_status names before now Infeasible quiet h = (h, quiet, refl)
said_at_status names before now (RayPast lines) quiet h = absurd h.3
said_at_status names before now UnboundedOrInfeasible quiet h = absurd h.3
said_at_status names before now Unbounded quiet h = (h, quiet, refl)

pub ends_as : (names : SolveNames) (before now : Moment) (why : Unsolved) (ending : Ending) → why ≡ unsolved.Ends ending → IsMade names (Err why) before now → SaysUnsolved names ending before now
ends_as names before now why ending is h = subst (λ (e : Unsolved). IsMade names (Err e) before now) is h
