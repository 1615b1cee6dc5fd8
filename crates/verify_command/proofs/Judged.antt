-- What is said of three texts, by what reads found of them.
use Rattle.std.proofs.Common.{◌≡◌, ℕ, List, inl, inr, Option, Some, None, Result, Err, sym, subst, ap₂, ◌∙◌}
use Rattle.std.specs.Option.{option_map}
use Rattle.file_ports.specs.Ports.{Moment}
use Rattle.command_words.specs.Names.{VerifyNames}
use Rattle.lp_model.specs.ProgramData.{ProgramData}
use Rattle.lp_model.specs.Writable.{EntriesAscend}
use Rattle.undo_records.specs.Named.{AreRecords}
use Rattle.undo_records.specs.Postsolve.{Postsolve}
use Rattle.endings.specs.declared.ending.Ending.{Ending}
use Rattle.endings.specs.declared.ending.Ending.TheVariants.{Done, Usage, Refused, ReadFault, WriteFault, NoMemory, NoRoom, RecordsRefused, SolutionRefused, Violated, Spent, Infeasible, RayPast, UnboundedOrInfeasible, Unbounded}
use Rattle.endings.specs.declared.forms.Form.{Form}
use Rattle.endings.specs.Ending.{status_of, text_of}
use Rattle.endings.specs.Moments.{Finds, IfFound, IsThere}
use Rattle.endings.specs.ProgramTexts.{IsFaultOf, IsProgramOf, SaysFaultOf}
use Rattle.endings.specs.declared.reads.TheConstants.{INPUT_LIMIT}
use Rattle.endings.proofs.Earlier.{finds_there, found_reads, given_reads}
use Rattle.record_texts.specs.RecordTexts.{GivesRecords}
use Rattle.record_texts.specs.declared.reading.TheConstants.{RECORDS_LIMIT}
use Rattle.record_texts.specs.declared.no_records.NoRecords.{NoRecords}
use Rattle.record_texts.specs.declared.no_records.NoRecords.TheVariants as no_records
use Rattle.record_texts.proofs.Found.{fault_told}
use Rattle.record_verify.specs.declared.verdict.Verified.{Verified}
use Rattle.record_verify.specs.declared.verdict.Verified.TheVariants.{No, Yes}
use Rattle.record_verify.specs.Verified as verified
use Rattle.walk_laws.proofs.Reducing.{walk_pairs, walk_reduces}
use Rattle.verify_command.specs.Given.{FaultsProgram, GivesProgram, input_form, output_form, records_refusal}
use Rattle.verify_command.specs.VerdictText.{TellsVerified, yes_text}
use Rattle.verify_command.specs.Verifying.{AreFound, AreGiven, IsProgramIn, IsReducedIn, IsSaid, SaysRecords, SaysVerify}
use Rattle.verify_command.specs.declared.given.Found.{Found}
use Rattle.verify_command.specs.declared.refusal.Refusal.{Refusal}
use Rattle.verify_command.specs.declared.refusal.Refusal.TheVariants as refusal

pub input_given : (names : VerifyNames) (before now : Moment) (form : Form) (found : Option (List ℕ)) (program : ProgramData) → form ≡ input_form names
    → Finds INPUT_LIMIT names.input before now found → IfFound found (λ text. IsProgramOf form text program) → IsProgramIn names before program
input_given names before now form found program is finds has =
    found_reads INPUT_LIMIT names.input before now found (λ text. IsProgramOf (input_form names) text program) finds
    (subst (λ (f : Form). IfFound found (λ text. IsProgramOf f text program)) is has)

pub output_given : (names : VerifyNames) (before now : Moment) (form : Form) (found : Option (List ℕ)) (reduced : ProgramData) → form ≡ output_form
    → Finds INPUT_LIMIT names.output before now found → IfFound found (λ text. IsProgramOf form text reduced) → IsReducedIn names before reduced
output_given names before now form found reduced is finds has =
    found_reads INPUT_LIMIT names.output before now found (λ text. IsProgramOf output_form text reduced) finds
    (subst (λ (f : Form). IfFound found (λ text. IsProgramOf f text reduced)) is has)

-- ---- refusals
fault_line : (form : Form) (name : List ℕ) (before now : Moment) (found : Option (List ℕ)) (said : List ℕ) → Finds INPUT_LIMIT name before now found → FaultsProgram form found said
    → SaysFaultOf INPUT_LIMIT form name said before now
fault_line form name before now None said finds says = inr (finds, says)
fault_line form name before now (Some text) said finds says =
    let fault = says.0 in
    inl (fault, given_reads INPUT_LIMIT (before.told name) text (λ t. IsFaultOf form t fault) finds.0 finds.1 says.1, says.2)

pub input_refused : (names : VerifyNames) (before now : Moment) (form : Form) (found : Option (List ℕ)) (why : Refusal) → form ≡ input_form names
    → Finds INPUT_LIMIT names.input before now found → GivesProgram form found (Err why) → IsSaid names (Err why) before now
input_refused names before now form found (refusal.Program line) is finds gives =
    inl (fault_line (input_form names) names.input before now found line.items finds (subst (λ (f : Form). FaultsProgram f found line.items) is gives))
input_refused names before now form found (refusal.Records line) is finds gives = absurd gives
input_refused names before now form found refusal.NoMemory is finds gives = tt

pub output_refused : (names : VerifyNames) (before now : Moment) (form : Form) (found : Option (List ℕ)) (program : ProgramData) (why : Refusal) → form ≡ output_form
    → Finds INPUT_LIMIT names.output before now found → IsProgramIn names before program → GivesProgram form found (Err why) → IsSaid names (Err why) before now
output_refused names before now form found program (refusal.Program line) is finds read gives =
    inr (program, read, fault_line output_form names.output before now found line.items finds (subst (λ (f : Form). FaultsProgram f found line.items) is gives))
output_refused names before now form found program (refusal.Records line) is finds read gives = absurd gives
output_refused names before now form found program refusal.NoMemory is finds read gives = tt

pub records_refused : (names : VerifyNames) (before now : Moment) (found : Option (List ℕ)) (program reduced : ProgramData) (none : NoRecords)
    → Finds RECORDS_LIMIT names.records before now found → IsProgramIn names before program → IsReducedIn names before reduced → GivesRecords found (Err none)
    → IsSaid names (Err (records_refusal none)) before now
records_refused names before now found program reduced (no_records.Refused line) finds input output gives = (program, reduced, input, output, fault_told names.records before now found line.items finds gives)
records_refused names before now found program reduced no_records.NoMemory finds input output gives = tt

-- an error that was handed on is that error
pub handed_on : (names : VerifyNames) (before now : Moment) (result : Result Ending Refusal) (given why : Refusal) → result ≡ Err given → given ≡ why → IsSaid names (Err why) before now → IsSaid names result before now
handed_on names before now result given why is same h =
    subst (λ (r : Result Ending Refusal). IsSaid names r before now) (sym is) (subst (λ (e : Refusal). IsSaid names (Err e) before now) (sym same) h)

-- ---- what is said
pub records_said : (names : VerifyNames) (before : Moment) (program reduced : ProgramData) (told : Postsolve) (said : Verified) (ending : Ending) → AreGiven names before program reduced told
    → EntriesAscend program → AreRecords told → verified.IsVerified program reduced told said → TellsVerified said ending → SaysRecords names ending before
records_said names before program reduced told (Yes records offset) (Done text) given ascends sound says tells = record {
  program = program;
  reduced = reduced;
  told = told;
  given = given;
  walks = says.0;
  said = tells ∙ ap₂ yes_text says.1 says.2;
  reduces = walk_reduces program reduced told ascends sound says.0;
  pairs = walk_pairs program reduced told sound says.0;
}
records_said names before program reduced told (No why) (Violated line) given ascends sound says tells =
    record { program = program; reduced = reduced; told = told; given = given; flaw = why; fails = says; said = tells }
records_said names before program reduced told (Yes records offset) Usage given ascends sound says tells = absurd tells
records_said names before program reduced told (Yes records offset) (Refused line) given ascends sound says tells = absurd tells
records_said names before program reduced told (Yes records offset) ReadFault given ascends sound says tells = absurd tells
records_said names before program reduced told (Yes records offset) WriteFault given ascends sound says tells = absurd tells
records_said names before program reduced told (Yes records offset) NoMemory given ascends sound says tells = absurd tells
records_said names before program reduced told (Yes records offset) (NoRoom line) given ascends sound says tells = absurd tells
records_said names before program reduced told (Yes records offset) (RecordsRefused line) given ascends sound says tells = absurd tells
records_said names before program reduced told (Yes records offset) (SolutionRefused line) given ascends sound says tells = absurd tells
records_said names before program reduced told (Yes records offset) (Violated line) given ascends sound says tells = absurd tells
records_said names before program reduced told (Yes records offset) Infeasible given ascends sound says tells = absurd tells
records_said names before program reduced told (Yes records offset) (RayPast lines) given ascends sound says tells = absurd tells
records_said names before program reduced told (Yes records offset) UnboundedOrInfeasible given ascends sound says tells = absurd tells
records_said names before program reduced told (Yes records offset) Spent given ascends sound says tells = absurd tells
records_said names before program reduced told (Yes records offset) Unbounded given ascends sound says tells = absurd tells
records_said names before program reduced told (No why) (Done text) given ascends sound says tells = absurd tells
records_said names before program reduced told (No why) Usage given ascends sound says tells = absurd tells
records_said names before program reduced told (No why) (Refused line) given ascends sound says tells = absurd tells
records_said names before program reduced told (No why) ReadFault given ascends sound says tells = absurd tells
records_said names before program reduced told (No why) WriteFault given ascends sound says tells = absurd tells
records_said names before program reduced told (No why) NoMemory given ascends sound says tells = absurd tells
records_said names before program reduced told (No why) (NoRoom line) given ascends sound says tells = absurd tells
records_said names before program reduced told (No why) (RecordsRefused line) given ascends sound says tells = absurd tells
records_said names before program reduced told (No why) (SolutionRefused line) given ascends sound says tells = absurd tells
records_said names before program reduced told (No why) Infeasible given ascends sound says tells = absurd tells
records_said names before program reduced told (No why) (RayPast lines) given ascends sound says tells = absurd tells
records_said names before program reduced told (No why) UnboundedOrInfeasible given ascends sound says tells = absurd tells
records_said names before program reduced told (No why) Spent given ascends sound says tells = absurd tells
records_said names before program reduced told (No why) Unbounded given ascends sound says tells = absurd tells

-- as the status has it
pub said_at_status : (names : VerifyNames) (before now : Moment) (ending : Ending) → SaysRecords names ending before → SaysVerify names (status_of ending) (text_of ending) before now
said_at_status names before now (Done text) h = h
said_at_status names before now Usage h = absurd h
said_at_status names before now (Refused line) h = absurd h
said_at_status names before now ReadFault h = absurd h
said_at_status names before now WriteFault h = absurd h
said_at_status names before now NoMemory h = absurd h
said_at_status names before now (NoRoom line) h = absurd h
said_at_status names before now (RecordsRefused line) h = absurd h
said_at_status names before now (SolutionRefused line) h = absurd h
said_at_status names before now (Violated line) h = h
said_at_status names before now Infeasible h = absurd h
said_at_status names before now (RayPast lines) h = absurd h
said_at_status names before now UnboundedOrInfeasible h = absurd h
said_at_status names before now Spent h = absurd h
said_at_status names before now Unbounded h = absurd h

pub refused_as : (names : VerifyNames) (before now : Moment) (given why : Refusal) → given ≡ why → IsSaid names (Err given) before now → IsSaid names (Err why) before now
refused_as names before now given why same h = subst (λ (e : Refusal). IsSaid names (Err e) before now) same h

pub found_so : (names : VerifyNames) (found : Found) (before now : Moment) → Finds INPUT_LIMIT names.input before now (option_map (λ text. text.items) found.input)
    → Finds INPUT_LIMIT names.output before now (option_map (λ text. text.items) found.output)
    → Finds RECORDS_LIMIT names.records before now (option_map (λ text. text.items) found.records) → AreFound names found before now
found_so names found before now i o r = record { input = i; output = o; records = r }

-- what was found is there
pub found_there : (names : VerifyNames) (found : Found) (before now : Moment) → AreFound names found before now
    → IsThere (before.told names.input) × IsThere (before.told names.output) × IsThere (before.told names.records)
found_there names found before now f = (
  finds_there INPUT_LIMIT names.input before now _ f.input,
  finds_there INPUT_LIMIT names.output before now _ f.output,
  finds_there RECORDS_LIMIT names.records before now _ f.records,
)
