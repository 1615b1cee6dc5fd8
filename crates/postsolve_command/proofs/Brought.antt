-- What is made of three texts, by what reads found of them.
use Rattle.std.proofs.Common.{◌≡◌, ℕ, Bool, List, inl, inr, Option, Some, None, Result, Ok, Err, sym, subst}
use Rattle.std.specs.Option.{option_map}
use Rattle.fractions.specs.Number.{Number}
use Rattle.fractions.specs.Room.{Room}
use Rattle.exact_texts.specs.Texts.{Texts as Readable}
use Rattle.exact_texts.specs.Kinds.{room_of, texts_of}
use Rattle.file_ports.specs.Ports.{Moment}
use Rattle.command_words.specs.Names.{PostsolveNames}
use Rattle.lp_model.specs.ProgramData.{ProgramData}
use Rattle.undo_records.specs.Postsolve.{Postsolve}
use Rattle.endings.specs.Moments.{Finds, IfFound, IsThere}
use Rattle.endings.specs.ProgramTexts.{IsFaultOf, IsProgramOf}
use Rattle.endings.specs.SolutionTexts.{IsPairBy, SaysPairFaultBy, fault_by}
use Rattle.endings.specs.declared.reads.TheConstants.{SOLUTION_LIMIT}
use Rattle.endings.proofs.Earlier.{finds_there, found_reads, given_reads}
use Rattle.record_texts.specs.RecordTexts.{AreRecordsOf, GivesRecords}
use Rattle.record_texts.specs.declared.reading.TheConstants.{RECORDS_LIMIT}
use Rattle.record_texts.specs.declared.no_records.NoRecords.{NoRecords}
use Rattle.record_texts.specs.declared.no_records.NoRecords.TheVariants as no_records
use Rattle.record_texts.proofs.Found.{fault_told, records_told}
use Rattle.postsolve_command.specs.Lifted.{GivesTexts}
use Rattle.postsolve_command.specs.Given.{FaultsDuals, FaultsMatch, FaultsProgram, FaultsPair, FaultsSolution, GivesProgram, UndoesThem, records_refusal, reduced_form}
use Rattle.postsolve_command.specs.Postsolved.{AreFound, AreMatched, AreRead, AreRecordsIn, BringsBack, IsBrought, IsPairIn, IsProgramIn, RefusesProgram}
use Rattle.postsolve_command.specs.declared.given.TheConstants.{PROGRAM_LIMIT}
use Rattle.postsolve_command.specs.declared.given.Found.{Found}
use Rattle.postsolve_command.specs.declared.lifted.Texts.{Texts}
use Rattle.postsolve_command.specs.declared.refusal.Refusal.{Refusal}
use Rattle.postsolve_command.specs.declared.refusal.Refusal.TheVariants.{Program, Records, Solution, Stopped, NoMemory}

pub program_given : (names : PostsolveNames) (before now : Moment) (found : Option (List ℕ)) (program : ProgramData)
    → Finds PROGRAM_LIMIT names.program before now found → IfFound found (λ text. IsProgramOf reduced_form text program) → IsProgramIn names before program
program_given names before now found program finds has = found_reads PROGRAM_LIMIT names.program before now found (λ text. IsProgramOf reduced_form text program) finds has

pub records_given : (names : PostsolveNames) (before now : Moment) (found : Option (List ℕ)) (records : Postsolve)
    → Finds RECORDS_LIMIT names.records before now found → IfFound found (λ text. AreRecordsOf text records) → AreRecordsIn names before records
records_given names before now found records finds has = records_told names.records before now found records finds has

pub pair_given : (names : PostsolveNames) (before now : Moment) (found : Option (List ℕ)) (program : ProgramData) (point : List Number) (duals : Option (List Number))
    → Finds SOLUTION_LIMIT names.solution before now found → IfFound found (λ text. IsPairBy (texts_of names.wide).reading program text point duals) → IsPairIn names before program point duals
pair_given names before now found program point duals finds has =
    found_reads SOLUTION_LIMIT names.solution before now found (λ text. IsPairBy (texts_of names.wide).reading program text point duals) finds has

program_line : (names : PostsolveNames) (before now : Moment) (found : Option (List ℕ)) (said : List ℕ)
    → Finds PROGRAM_LIMIT names.program before now found → FaultsProgram found said → RefusesProgram names said before now
program_line names before now None said finds says = inr (finds, says)
program_line names before now (Some text) said finds says =
    let fault = says.0 in
    inl (fault, given_reads PROGRAM_LIMIT (before.told names.program) text (λ t. IsFaultOf reduced_form t fault) finds.0 finds.1 says.1, says.2)

pub program_refused : (names : PostsolveNames) (before now : Moment) (found : Option (List ℕ)) (refusal : Refusal)
    → Finds PROGRAM_LIMIT names.program before now found
    → GivesProgram found (Err refusal) → IsBrought names (Err refusal) before now
program_refused names before now found (Program line) finds gives = program_line names before now found line.items finds gives
program_refused names before now found (Records line) finds gives = absurd gives
program_refused names before now found (Solution line) finds gives = absurd gives
program_refused names before now found (Stopped line) finds gives = absurd gives
program_refused names before now found NoMemory finds gives = tt

pub records_refused : (names : PostsolveNames) (before now : Moment) (found : Option (List ℕ)) (program : ProgramData) (none : NoRecords)
    → Finds RECORDS_LIMIT names.records before now found
    → IsProgramIn names before program → GivesRecords found (Err none) → IsBrought names (Err (records_refusal none)) before now
records_refused names before now found program (no_records.Refused line) finds read gives = inl (program, read, inl (fault_told names.records before now found line.items finds gives))
records_refused names before now found program no_records.NoMemory finds read gives = tt

pub match_refused : (names : PostsolveNames) (before now : Moment) (program : ProgramData) (records : Postsolve) (refusal : Refusal)
    → IsProgramIn names before program → AreRecordsIn names before records
    → FaultsMatch records program refusal → IsBrought names (Err refusal) before now
match_refused names before now program records (Program line) read held gives = absurd gives
match_refused names before now program records (Records line) read held gives = inl (program, read, inr (records, held, gives.0, gives.1))
match_refused names before now program records (Solution line) read held gives = absurd gives
match_refused names before now program records (Stopped line) read held gives = absurd gives
match_refused names before now program records NoMemory read held gives = tt

pair_line : (names : PostsolveNames) (before now : Moment) (found : Option (List ℕ)) (program : ProgramData) (said : List ℕ)
    → Finds SOLUTION_LIMIT names.solution before now found
    → FaultsSolution (texts_of names.wide).reading program found said
    → SaysPairFaultBy (texts_of names.wide).reading program names.solution said before now
pair_line names before now None program said finds says = inr (finds, says)
pair_line names before now (Some text) program said finds says =
    let fault = says.0 in
    inl (fault, given_reads SOLUTION_LIMIT (before.told names.solution) text (λ t. fault_by (texts_of names.wide).reading program t ≡ Some (fault.kind, fault.line)) finds.0 finds.1 says.1, says.2)

-- ---- what is made of SOL's text
module _ (names : PostsolveNames) (before now : Moment) (program : ProgramData) (records : Postsolve) (found : Option (List ℕ))
    (finds : Finds SOLUTION_LIMIT names.solution before now found) (matched : AreMatched names before program records) where
  read_so : (point : List Number) (duals : Option (List Number)) → IfFound found (λ text. IsPairBy (texts_of names.wide).reading program text point duals)
      → AreRead names before program records point duals
  read_so point duals has = record { matched = matched; pair_text = pair_given names before now found program point duals finds has }

  brought : (result : Result Texts Refusal) → BringsBack (room_of names.wide) (texts_of names.wide) program records found result → IsBrought names result before now
  brought (Ok texts) h = record {
    program = program;
    records = records;
    point = h.point;
    duals = h.duals;
    given = record { read = read_so h.point h.duals h.pair_text; undoes = h.undoes };
    texts = h.lifts;
  }
  brought (Err (Program line)) h = absurd h
  brought (Err (Records line)) h = inr (record {
    program = program;
    records = records;
    point = h.point;
    duals = h.duals;
    read = read_so h.point h.duals h.pair_text;
    leaves = h.leaves;
    says = h.says;
  })
  brought (Err (Solution line)) h = (program, records, matched, pair_line names before now found program line.items finds h)
  brought (Err (Stopped line)) h = record {
    program = program;
    records = records;
    point = h.point;
    duals = h.duals;
    given = record { read = read_so h.point h.duals h.pair_text; undoes = h.undoes };
    stops = h.stops;
  }
  brought (Err NoMemory) h = tt

  pub brought_by_width : (wide : Bool) → wide ≡ names.wide → (result : Result Texts Refusal) → BringsBack (room_of wide) (texts_of wide) program records found result
      → IsBrought names result before now
  brought_by_width wide same result h = brought result (subst (λ w. BringsBack (room_of w) (texts_of w) program records found result) same h)

module _ (m : Room) (t : Readable) (program : ProgramData) (records : Postsolve) (found : Option (List ℕ)) where
  pub pair_refused : (refusal : Refusal) → FaultsPair t.reading program found refusal → BringsBack m t program records found (Err refusal)
  pair_refused (Program line) gives = absurd gives
  pair_refused (Records line) gives = absurd gives
  pair_refused (Solution line) gives = gives
  pair_refused (Stopped line) gives = absurd gives
  pair_refused NoMemory gives = tt

  module _ (point : List Number) (duals : Option (List Number)) (has : IfFound found (λ text. IsPairBy t.reading program text point duals)) where
    pub duals_refused : (refusal : Refusal) → FaultsDuals records duals refusal → BringsBack m t program records found (Err refusal)
    duals_refused (Program line) gives = absurd gives
    duals_refused (Records line) gives = record { point = point; duals = duals; pair_text = has; leaves = gives.0; says = gives.1 }
    duals_refused (Solution line) gives = absurd gives
    duals_refused (Stopped line) gives = absurd gives
    duals_refused NoMemory gives = tt

    pub texts_given : UndoesThem records duals → (result : Result Texts Refusal) → GivesTexts m t.writing records program point duals result → BringsBack m t program records found result
    texts_given undoes (Ok texts) gives = record { point = point; duals = duals; pair_text = has; undoes = undoes; lifts = gives }
    texts_given undoes (Err (Program line)) gives = absurd gives
    texts_given undoes (Err (Records line)) gives = absurd gives
    texts_given undoes (Err (Solution line)) gives = absurd gives
    texts_given undoes (Err (Stopped line)) gives = record { point = point; duals = duals; pair_text = has; undoes = undoes; stops = gives }
    texts_given undoes (Err NoMemory) gives = tt

  -- an error that was handed on is that error
  pub handed_back : (result : Result Texts Refusal) (given refusal : Refusal) → result ≡ Err given → given ≡ refusal
      → BringsBack m t program records found (Err refusal) → BringsBack m t program records found result
  handed_back result given refusal is same h =
      subst (λ r. BringsBack m t program records found r) (sym is) (subst (λ e. BringsBack m t program records found (Err e)) (sym same) h)

-- an error that was handed on is that error
pub handed_on : (names : PostsolveNames) (before now : Moment) (result : Result Texts Refusal) (given refusal : Refusal) → result ≡ Err given → given ≡ refusal
    → IsBrought names (Err refusal) before now → IsBrought names result before now
handed_on names before now result given refusal is same h =
    subst (λ r. IsBrought names r before now) (sym is) (subst (λ e. IsBrought names (Err e) before now) (sym same) h)

pub refused_as : (names : PostsolveNames) (before now : Moment) (given refusal : Refusal) → given ≡ refusal → IsBrought names (Err given) before now → IsBrought names (Err refusal) before now
refused_as names before now given refusal same h = subst (λ e. IsBrought names (Err e) before now) same h

pub found_so : (names : PostsolveNames) (found : Found) (before now : Moment) → Finds PROGRAM_LIMIT names.program before now (option_map (λ text. text.items) found.program)
    → Finds RECORDS_LIMIT names.records before now (option_map (λ text. text.items) found.records)
    → Finds SOLUTION_LIMIT names.solution before now (option_map (λ text. text.items) found.solution) → AreFound names found before now
found_so names found before now p r s = record { program = p; records = r; solution = s }

-- what was found is there
pub found_there : (names : PostsolveNames) (found : Found) (before now : Moment) → AreFound names found before now
    → IsThere (before.told names.program) × IsThere (before.told names.records) × IsThere (before.told names.solution)
found_there names found before now f = (
  finds_there PROGRAM_LIMIT names.program before now _ f.program,
  finds_there RECORDS_LIMIT names.records before now _ f.records,
  finds_there SOLUTION_LIMIT names.solution before now _ f.solution,
)
