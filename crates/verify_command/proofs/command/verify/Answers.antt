use Rattle.std.proofs.Common.{◌≡◌}
use Rattle.command_words.specs.Seen.{verify_names_of}
use Rattle.verify_command.specs.declared.refusal.Refusal.TheVariants.{Program, Records}
use Rattle.verify_command.proofs.Judged.{found_so, found_there, refused_as, said_at_status}
use Rattle.verify_command.proofs.command.verify.Goals as goal

pub returns-in-Ok-judge-clause-ends : goal.returns-in-Ok-judge-clause-ends
returns-in-Ok-judge-clause-ends g c =
    let names = verify_names_of c.args.words.now in
    let before = g.F.Files.moment c.args.files.now in
    let now = g.F.Files.moment c.read_all.new.files in
    let found = found_so names c.in-Ok.found before now c.in-Ok.ensures.input c.in-Ok.ensures.output c.in-Ok.ensures.records in record {
      says = said_at_status names before now c.in-Ok-judge.ending (c.in-Ok-judge.ensures names before now c.form_with-form.ensures found);
      quiet = c.read_all.ensures.kept;
      read = λ a b. found_there names c.in-Ok.found before now found;
    }

pub returns-in-Err-Program-clause-ends : goal.returns-in-Err-Program-clause-ends
returns-in-Err-Program-clause-ends g c =
    let names = verify_names_of c.args.words.now in
    let before = g.F.Files.moment c.args.files.now in
    let now = g.F.Files.moment c.read_all.new.files in
    let found = found_so names c.in-Ok.found before now c.in-Ok.ensures.input c.in-Ok.ensures.output c.in-Ok.ensures.records in
    let same : c.in-Err-Program.field-0 ≡ Program c.in-Err-Program.line = cc in record {
      says = refused_as names before now c.in-Err-Program.field-0 (Program c.in-Err-Program.line) same (c.in-Err-Program.ensures names before now c.form_with-form.ensures found);
      quiet = c.read_all.ensures.kept;
      read = λ a b. found_there names c.in-Ok.found before now found;
    }

pub returns-in-Err-Records-clause-ends : goal.returns-in-Err-Records-clause-ends
returns-in-Err-Records-clause-ends g c =
    let names = verify_names_of c.args.words.now in
    let before = g.F.Files.moment c.args.files.now in
    let now = g.F.Files.moment c.read_all.new.files in
    let found = found_so names c.in-Ok.found before now c.in-Ok.ensures.input c.in-Ok.ensures.output c.in-Ok.ensures.records in
    let same : c.in-Err-Records.field-0 ≡ Records c.in-Err-Records.line = cc in record {
      says = refused_as names before now c.in-Err-Records.field-0 (Records c.in-Err-Records.line) same (c.in-Err-Records.ensures names before now c.form_with-form.ensures found);
      quiet = c.read_all.ensures.kept;
      read = λ a b. found_there names c.in-Ok.found before now found;
    }
