use Rattle.std.proofs.Common.{◌≡◌, refl, arith}
use Rattle.command_words.specs.Seen.{postsolve_names_of}
use Rattle.endings.proofs.Earlier.{kept_since, rose_since, unsettled_since, written_since}
use Rattle.postsolve_command.specs.declared.refusal.Refusal.TheVariants.{Program, Records, Solution, Stopped}
use Rattle.postsolve_command.proofs.AnyWidth.{never_stopped}
use Rattle.postsolve_command.proofs.Brought.{found_so, found_there, refused_as}
use Rattle.postsolve_command.proofs.command.postsolve.Goals as goal

pub returns-in-Err-Program-clause-ends : goal.returns-in-Err-Program-clause-ends
returns-in-Err-Program-clause-ends g c =
    let names = postsolve_names_of c.args.words.now in
    let before = g.F.Files.moment c.args.files.now in
    let now = g.F.Files.moment c.read_all.new.files in
    let found = found_so names c.in-Ok.found before now c.in-Ok.ensures.program c.in-Ok.ensures.records c.in-Ok.ensures.solution in
    let same : c.in-Err-Program.field-0 ≡ Program c.in-Err-Program.line = cc in record {
      says = (refused_as names before now c.in-Err-Program.field-0 (Program c.in-Err-Program.line) same (c.in-Err-Program.ensures names before now refl found), c.read_all.ensures.kept);
      never_past = λ w. omega arith;
      read = λ a b. found_there names c.in-Ok.found before now found;
    }

pub returns-in-Err-Records-clause-ends : goal.returns-in-Err-Records-clause-ends
returns-in-Err-Records-clause-ends g c =
    let names = postsolve_names_of c.args.words.now in
    let before = g.F.Files.moment c.args.files.now in
    let now = g.F.Files.moment c.read_all.new.files in
    let found = found_so names c.in-Ok.found before now c.in-Ok.ensures.program c.in-Ok.ensures.records c.in-Ok.ensures.solution in
    let same : c.in-Err-Records.field-0 ≡ Records c.in-Err-Records.line = cc in record {
      says = (refused_as names before now c.in-Err-Records.field-0 (Records c.in-Err-Records.line) same (c.in-Err-Records.ensures names before now refl found), c.read_all.ensures.kept);
      never_past = λ w. omega arith;
      read = λ a b. found_there names c.in-Ok.found before now found;
    }

pub returns-in-Err-Solution-clause-ends : goal.returns-in-Err-Solution-clause-ends
returns-in-Err-Solution-clause-ends g c =
    let names = postsolve_names_of c.args.words.now in
    let before = g.F.Files.moment c.args.files.now in
    let now = g.F.Files.moment c.read_all.new.files in
    let found = found_so names c.in-Ok.found before now c.in-Ok.ensures.program c.in-Ok.ensures.records c.in-Ok.ensures.solution in
    let same : c.in-Err-Solution.field-0 ≡ Solution c.in-Err-Solution.line = cc in record {
      says = (refused_as names before now c.in-Err-Solution.field-0 (Solution c.in-Err-Solution.line) same (c.in-Err-Solution.ensures names before now refl found), c.read_all.ensures.kept);
      never_past = λ w. omega arith;
      read = λ a b. found_there names c.in-Ok.found before now found;
    }

pub returns-in-Err-Stopped-clause-ends : goal.returns-in-Err-Stopped-clause-ends
returns-in-Err-Stopped-clause-ends g c =
    let names = postsolve_names_of c.args.words.now in
    let before = g.F.Files.moment c.args.files.now in
    let now = g.F.Files.moment c.read_all.new.files in
    let found = found_so names c.in-Ok.found before now c.in-Ok.ensures.program c.in-Ok.ensures.records c.in-Ok.ensures.solution in
    let same : c.in-Err-Stopped.field-0 ≡ Stopped c.in-Err-Stopped.line = cc in record {
      says = (refused_as names before now c.in-Err-Stopped.field-0 (Stopped c.in-Err-Stopped.line) same (c.in-Err-Stopped.ensures names before now refl found), c.read_all.ensures.kept);
      never_past = λ w. absurd (never_stopped names c.in-Err-Stopped.line.items before w (refused_as names before now c.in-Err-Stopped.field-0 (Stopped c.in-Err-Stopped.line) same (c.in-Err-Stopped.ensures names before now refl found)));
      read = λ a b. found_there names c.in-Ok.found before now found;
    }

pub returns-in-Ok-write-clause-ends : goal.returns-in-Ok-write-clause-ends
returns-in-Ok-write-clause-ends g c =
    let names = postsolve_names_of c.args.words.now in
    let before = g.F.Files.moment c.args.files.now in
    let between = g.F.Files.moment c.read_all.new.files in
    let now = g.F.Files.moment c.write.new.self in
    let found = found_so names c.in-Ok.found before between c.in-Ok.ensures.program c.in-Ok.ensures.records c.in-Ok.ensures.solution in
    let texts = c.in-Ok-bring_back.texts in record {
      says = record {
        result = texts.result.items;
        lifted = c.in-Ok-bring_back.ensures names before between refl found;
        result_written = written_since before.told between.told now.told names.result c.deref.result.now texts.result.items c.read_all.ensures.kept c.deref.ensures.value c.in-Ok-write.ensures.written;
        others = kept_since before.told between.told now.told names.result c.read_all.ensures.kept c.in-Ok-write.ensures.others;
      };
      never_past = λ w. omega arith;
      read = λ a b. found_there names c.in-Ok.found before between found;
    }

pub returns-in-Err-clause-ends : goal.returns-in-Err-clause-ends
returns-in-Err-clause-ends g c =
    let names = postsolve_names_of c.args.words.now in
    let before = g.F.Files.moment c.args.files.now in
    let between = g.F.Files.moment c.read_all.new.files in
    let now = g.F.Files.moment c.write.new.self in
    let found = found_so names c.in-Ok.found before between c.in-Ok.ensures.program c.in-Ok.ensures.records c.in-Ok.ensures.solution in
    let texts = c.in-Ok-bring_back.texts in record {
      says = (
        record {
          result = texts.result.items;
          printed = texts.printed.items;
          lifted = c.in-Ok-bring_back.ensures names before between refl found;
          fails = rose_since before.writes between.writes now.writes names.result c.read_all.ensures.writes_stay c.in-Err.ensures.failed;
          unsettled = unsettled_since before.told between.told now.told names.result c.read_all.ensures.kept c.in-Err.ensures.unsettled;
          others = kept_since before.told between.told now.told names.result c.read_all.ensures.kept c.in-Err.ensures.others;
        },
        refl,
      );
      never_past = λ w. omega arith;
      read = λ a b. found_there names c.in-Ok.found before between found;
    }
