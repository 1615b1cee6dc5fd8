use Rattle.std.proofs.Common.{◌<◌, ◌^◌, length, subst, sym, arith}
use Rattle.lp_model.specs.ProgramData.{ProgramData}
use Rattle.lp_model.specs.Writable.{EntriesAscend, Writable}
use Rattle.opb_text.specs.Reading.{tokens_of}
use Rattle.opb_laws.proofs.Entries.{entries_ascend}
use Rattle.opb_laws.proofs.Few.{program_few}
use Rattle.opb_laws.proofs.Named.{text_well_named}
use Rattle.opb_laws.proofs.Writing.{text_writable}
use Rattle.opb_reader.proofs.reading.read_opb.Goals as goal

pub program-requires : goal.program-requires
program-requires c = (tokens_of c.args.bytes.now, c.in_ok-reader.ensures.1, text_well_named c.args.bytes.now (let short = c.requires in omega (arith, short)))

pub returns-clause-writable : goal.returns-clause-writable
returns-clause-writable c = λ numbers.
    let is = c.in_ok-program.ensures (tokens_of c.args.bytes.now) c.in_ok-reader.ensures.1 in
    subst (λ (program : ProgramData). Writable numbers program) (sym is) (text_writable numbers c.args.bytes.now c.in_ok-reader.ensures.0)

pub returns-clause-few : goal.returns-clause-few
returns-clause-few c =
    let is = c.in_ok-program.ensures (tokens_of c.args.bytes.now) c.in_ok-reader.ensures.1 in
    let few = program_few c.args.bytes.now in
    let short = c.requires in
    subst (λ (program : ProgramData). (length program.rows < 2 ^ 32) × (length program.columns < 2 ^ 32)) (sym is) (omega (arith, few.0, short), omega (arith, few.1, short))

pub returns-clause-ascends : goal.returns-clause-ascends
returns-clause-ascends c =
    let is = c.in_ok-program.ensures (tokens_of c.args.bytes.now) c.in_ok-reader.ensures.1 in
    subst EntriesAscend (sym is) (entries_ascend (tokens_of c.args.bytes.now))
