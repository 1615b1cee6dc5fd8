use Rattle.std.proofs.Common.{sym, subst}
use Rattle.std.specs.List.{All}
use Rattle.lp_model.specs.Name.{IsName}
use Rattle.mps_laws.proofs.Names.{cards_give_names, program_well_named}
use Rattle.mps_reader.proofs.Programs.{cards_in, parts_are, few_rows, program_as, writable_as, few_as, ascends_as}
use Rattle.mps_reader.proofs.reading.read_mps.Goals as goal

pub assemble-requires-clause-few : goal.assemble-requires-clause-few
assemble-requires-clause-few c =
    let are = parts_are c.args.dialect c.args.bytes.now c.in_ok-reader.reader c.parts_of-parts.result c.in_ok-reader.ensures c.parts_of-parts.ensures in
    few_rows c.args.dialect c.args.bytes.now c.in_ok-reader.reader c.parts_of-parts.result c.in_ok-reader.ensures are c.requires

pub assemble-requires-clause-rows : goal.assemble-requires-clause-rows
assemble-requires-clause-rows c =
    let are = parts_are c.args.dialect c.args.bytes.now c.in_ok-reader.reader c.parts_of-parts.result c.in_ok-reader.ensures c.parts_of-parts.ensures in
    subst (All IsName) (sym are.rows) (cards_give_names c.args.dialect c.args.bytes.now).0

pub assemble-requires-clause-columns : goal.assemble-requires-clause-columns
assemble-requires-clause-columns c =
    let are = parts_are c.args.dialect c.args.bytes.now c.in_ok-reader.reader c.parts_of-parts.result c.in_ok-reader.ensures c.parts_of-parts.ensures in
    subst (All IsName) (sym are.columns) (cards_give_names c.args.dialect c.args.bytes.now).1

pub assemble-requires-clause-named : goal.assemble-requires-clause-named
assemble-requires-clause-named c = (
  c.args.dialect,
  cards_in c.args.dialect c.args.bytes.now,
  parts_are c.args.dialect c.args.bytes.now c.in_ok-reader.reader c.parts_of-parts.result c.in_ok-reader.ensures c.parts_of-parts.ensures,
  program_well_named c.args.dialect c.args.bytes.now c.in_ok-reader.ensures.sound,
)

pub returns-clause-read : goal.returns-clause-read
returns-clause-read c =
    let are = parts_are c.args.dialect c.args.bytes.now c.in_ok-reader.reader c.parts_of-parts.result c.in_ok-reader.ensures c.parts_of-parts.ensures in
    (c.in_ok-reader.ensures.sound, program_as c.args.dialect c.args.bytes.now c.in_ok-reader.reader c.in_ok-program.program c.in_ok-reader.ensures (c.in_ok-program.ensures c.args.dialect (cards_in c.args.dialect c.args.bytes.now) are))

pub returns-clause-writable : goal.returns-clause-writable
returns-clause-writable c =
    let are = parts_are c.args.dialect c.args.bytes.now c.in_ok-reader.reader c.parts_of-parts.result c.in_ok-reader.ensures c.parts_of-parts.ensures in
    writable_as c.args.dialect c.args.bytes.now c.in_ok-reader.reader c.in_ok-program.program c.in_ok-reader.ensures (c.in_ok-program.ensures c.args.dialect (cards_in c.args.dialect c.args.bytes.now) are)

pub returns-clause-few : goal.returns-clause-few
returns-clause-few c =
    let are = parts_are c.args.dialect c.args.bytes.now c.in_ok-reader.reader c.parts_of-parts.result c.in_ok-reader.ensures c.parts_of-parts.ensures in
    few_as c.args.dialect c.args.bytes.now c.in_ok-reader.reader c.in_ok-program.program c.in_ok-reader.ensures (c.in_ok-program.ensures c.args.dialect (cards_in c.args.dialect c.args.bytes.now) are) c.requires

pub returns-clause-ascends : goal.returns-clause-ascends
returns-clause-ascends c =
    let are = parts_are c.args.dialect c.args.bytes.now c.in_ok-reader.reader c.parts_of-parts.result c.in_ok-reader.ensures c.parts_of-parts.ensures in
    ascends_as c.args.dialect c.args.bytes.now c.in_ok-reader.reader c.in_ok-program.program c.in_ok-reader.ensures (c.in_ok-program.ensures c.args.dialect (cards_in c.args.dialect c.args.bytes.now) are)
