use Rattle.std.proofs.Common.{◌≡◌, refl}
use Rattle.command_words.specs.Seen.{solve_names_of}
use Rattle.endings.specs.declared.reads.TheConstants.{INPUT_LIMIT}
use Rattle.endings.proofs.Earlier.{finds_there, kept_since, rose_since, unsettled_since, written_since}
use Rattle.solve_command.specs.declared.refusal.Unsolved.TheVariants.{Ends}
use Rattle.solve_command.proofs.Made.{ends_as, said_at_status}
use Rattle.solve_command.proofs.command.solve.Goals as goal

pub returns-in-Err-Ends-clause-ends : goal.returns-in-Err-Ends-clause-ends
returns-in-Err-Ends-clause-ends g c =
    let names = solve_names_of c.args.words.now in
    let before = g.F.Files.moment c.args.files.now in
    let now = g.F.Files.moment c.read_within.new.files in
    let same : c.in-Err-Ends.field-0 ≡ Ends c.in-Err-Ends.ending = cc in record {
      says = said_at_status names before now c.in-Err-Ends.ending c.read_within.ensures.kept
          (ends_as names before now c.in-Err-Ends.field-0 c.in-Err-Ends.ending same (c.in-Err-Ends.ensures names before now c.fractions_form.ensures refl c.in-Ok.ensures.found));
      read = λ a b. finds_there INPUT_LIMIT names.input before now _ c.in-Ok.ensures.found;
    }

pub returns-in-Ok-write-clause-ends : goal.returns-in-Ok-write-clause-ends
returns-in-Ok-write-clause-ends g c =
    let names = solve_names_of c.args.words.now in
    let before = g.F.Files.moment c.args.files.now in
    let between = g.F.Files.moment c.read_within.new.files in
    let now = g.F.Files.moment c.write.new.self in
    let texts = c.in-Ok-solved_texts.texts in record {
      says = record {
        text = texts.written.items;
        best = c.in-Ok-solved_texts.ensures names before between c.fractions_form.ensures refl c.in-Ok.ensures.found;
        text_written = written_since before.told between.told now.told names.solution c.deref.result.now texts.written.items c.read_within.ensures.kept c.deref.ensures.value c.in-Ok-write.ensures.written;
        others = kept_since before.told between.told now.told names.solution c.read_within.ensures.kept c.in-Ok-write.ensures.others;
      };
      read = λ a b. finds_there INPUT_LIMIT names.input before between _ c.in-Ok.ensures.found;
    }

pub returns-in-Err-clause-ends : goal.returns-in-Err-clause-ends
returns-in-Err-clause-ends g c =
    let names = solve_names_of c.args.words.now in
    let before = g.F.Files.moment c.args.files.now in
    let between = g.F.Files.moment c.read_within.new.files in
    let now = g.F.Files.moment c.write.new.self in
    let texts = c.in-Ok-solved_texts.texts in record {
      says = (
        record {
          text = texts.written.items;
          printed = texts.printed.items;
          best = c.in-Ok-solved_texts.ensures names before between c.fractions_form.ensures refl c.in-Ok.ensures.found;
          fails = rose_since before.writes between.writes now.writes names.solution c.read_within.ensures.writes_stay c.in-Err.ensures.failed;
          unsettled = unsettled_since before.told between.told now.told names.solution c.read_within.ensures.kept c.in-Err.ensures.unsettled;
          others = kept_since before.told between.told now.told names.solution c.read_within.ensures.kept c.in-Err.ensures.others;
        },
        refl,
      );
      read = λ a b. finds_there INPUT_LIMIT names.input before between _ c.in-Ok.ensures.found;
    }
