use Rattle.std.proofs.Common.{Some, None, refl, inl, inr}
use Rattle.std.proofs.lemmas.Result.{IfOk-weaker}
use Rattle.command_words.specs.Seen.{names_of}
use Rattle.endings.specs.Forms.{form_of}
use Rattle.endings.specs.declared.ending.Ending.TheVariants.{Infeasible}
use Rattle.endings.specs.declared.reads.TheConstants.{INPUT_LIMIT}
use Rattle.endings.proofs.Earlier.{finds_there, program_read}
use Rattle.presolve_command.specs.Presolved.{IsMadeOf}
use Rattle.presolve_command.specs.Texts.{TextIsNotTaken, TextIsUnboundedOrInfeasible}
use Rattle.presolve_command.proofs.Before.{fails_earlier, others_earlier, written_earlier}
use Rattle.presolve_command.proofs.Proved.{infeasible_ends, shown_kept, unasked}
use Rattle.presolve_command.proofs.Made.{infeasible_said, not_taken_said, said_read, unbounded_said}
use Rattle.presolve_command.proofs.command.presolve.Goals as goal

pub returns-in-Ok-write_both-clause-ends : goal.returns-in-Ok-write_both-clause-ends
returns-in-Ok-write_both-clause-ends g c =
    let names = names_of c.args.words.now in
    let before = g.F.Files.moment c.args.files.now in
    let between = g.F.Files.moment c.read.new.self in
    let now = g.F.Files.moment c.write_both.new.files in
    let reduced = c.in-Ok-reduce.ensures.reduced in
    let texts = c.in-Ok-reduce.texts in
    let made : IsMadeOf names texts.program.items texts.records.items texts.report.items before = record {
      outcome = reduced.0;
      source = program_read INPUT_LIMIT (before.told names.input) (form_of names.options) (form_of names.options) c.in-Ok.text.items _ reduced.0.source c.in-Ok.ensures.bytes c.in-Ok.ensures.most refl refl reduced.1;
      concluded = reduced.2;
    } in
    record {
      says = record {
        program = texts.program.items;
        records = texts.records.items;
        made = made;
        program_written = written_earlier names.output _ before between now c.read.ensures.kept c.in-Ok-write_both.ensures.program;
        records_written = written_earlier names.records _ before between now c.read.ensures.kept c.in-Ok-write_both.ensures.records;
        others = others_earlier names.output names.records before between now c.read.ensures.kept c.in-Ok-write_both.ensures.others;
      };
      read = λ a b. finds_there INPUT_LIMIT names.input before before (Some c.in-Ok.text.items) (c.in-Ok.ensures.bytes, c.in-Ok.ensures.most);
    }

pub returns-clause-ends : goal.returns-clause-ends
returns-clause-ends g c =
    let names = names_of c.args.words.now in
    let before = g.F.Files.moment c.args.files.now in
    let between = g.F.Files.moment c.read.new.self in
    let now = g.F.Files.moment c.write_both.new.files in
    let reduced = c.in-Ok-reduce.ensures.reduced in
    let texts = c.in-Ok-reduce.texts in
    let made : IsMadeOf names texts.program.items texts.records.items texts.report.items before = record {
      outcome = reduced.0;
      source = program_read INPUT_LIMIT (before.told names.input) (form_of names.options) (form_of names.options) c.in-Ok.text.items _ reduced.0.source c.in-Ok.ensures.bytes c.in-Ok.ensures.most refl refl reduced.1;
      concluded = reduced.2;
    } in
    record {
      says = (inl (texts.program.items, texts.records.items, texts.report.items, made, fails_earlier names.output _ names.records before between now c.read.ensures.kept c.read.ensures.writes_stay c.in-Err.ensures.failed), refl);
      read = λ a b. finds_there INPUT_LIMIT names.input before before (Some c.in-Ok.text.items) (c.in-Ok.ensures.bytes, c.in-Ok.ensures.most);
    }

pub infeasible-requires-clause-decided : goal.infeasible-requires-clause-decided
infeasible-requires-clause-decided g c =
    infeasible_said c.args.words.now.options c.in-Ok.text.items c.deref.result.now c.in-Ok.text.items c.in-Err-Infeasible.field-0 c.in-Err-Infeasible.decided c.in-Err-Infeasible.field-0-is
    refl (shown_kept c.deref.result.now c.reduce.new.text c.in-Ok.text c.deref.ensures.value (c.in-Err-Infeasible.ensures.kept c.if-not-keeps.false)) c.in-Err-Infeasible.ensures.reduced

pub returns-then-not-keeps-clause-ends : goal.returns-then-not-keeps-clause-ends
returns-then-not-keeps-clause-ends g c =
    let names = names_of c.args.words.now in
    let before = g.F.Files.moment c.args.files.now in
    let between = g.F.Files.moment c.read.new.self in
    let held = c.in-Ok.text.items in
    record {
      says = infeasible_ends names before between between held held _ _ Infeasible None (unasked c.args.words.now.ray c.is_some-keeps.result c.is_some-keeps.ensures c.if-not-keeps.true) c.read.ensures.kept c.read.ensures.writes_stay c.in-Ok.ensures.bytes
          c.in-Ok.ensures.most refl
          (infeasible_said c.args.words.now.options held held held c.in-Err-Infeasible.field-0 c.in-Err-Infeasible.decided c.in-Err-Infeasible.field-0-is refl refl c.in-Err-Infeasible.ensures.reduced)
          refl;
      read = λ a b. finds_there INPUT_LIMIT names.input before before (Some held) (c.in-Ok.ensures.bytes, c.in-Ok.ensures.most);
    }

pub returns-in-Err-Infeasible-clause-ends : goal.returns-in-Err-Infeasible-clause-ends
returns-in-Err-Infeasible-clause-ends g c =
    let names = names_of c.args.words.now in
    let before = g.F.Files.moment c.args.files.now in
    let held = c.in-Ok.text.items in
    let shown = c.deref.result.now in
    let same = shown_kept shown c.reduce.new.text c.in-Ok.text c.deref.ensures.value (c.in-Err-Infeasible.ensures.kept c.if-not-keeps.false) in
    IfOk-weaker c.infeasible.result _ _ (λ e ends. record {
      says = infeasible_ends names before (g.F.Files.moment c.read.new.self) (g.F.Files.moment c.infeasible.new.files) held shown _ _ e names.ray refl c.read.ensures.kept c.read.ensures.writes_stay c.in-Ok.ensures.bytes
          c.in-Ok.ensures.most same
          (infeasible_said c.args.words.now.options held shown held c.in-Err-Infeasible.field-0 c.in-Err-Infeasible.decided c.in-Err-Infeasible.field-0-is refl same c.in-Err-Infeasible.ensures.reduced)
          ends;
      read = λ a b. finds_there INPUT_LIMIT names.input before before (Some held) (c.in-Ok.ensures.bytes, c.in-Ok.ensures.most);
    }) c.infeasible.ensures.ends

pub returns-in-Err-UnboundedOrInfeasible-clause-ends : goal.returns-in-Err-UnboundedOrInfeasible-clause-ends
returns-in-Err-UnboundedOrInfeasible-clause-ends g c =
    let names = names_of c.args.words.now in
    let before = g.F.Files.moment c.args.files.now in
    record {
      says = (
        said_read (λ t. TextIsUnboundedOrInfeasible names.options t) INPUT_LIMIT (before.told names.input) c.in-Ok.text.items _ c.in-Ok.ensures.bytes c.in-Ok.ensures.most refl
            (unbounded_said c.args.words.now.options c.in-Ok.text.items c.in-Err-UnboundedOrInfeasible.field-0 c.in-Err-UnboundedOrInfeasible.field-0-is c.in-Err-UnboundedOrInfeasible.ensures.reduced),
        c.read.ensures.kept,
        refl,
      );
      read = λ a b. finds_there INPUT_LIMIT names.input before before (Some c.in-Ok.text.items) (c.in-Ok.ensures.bytes, c.in-Ok.ensures.most);
    }

pub returns-in-Err-NotContinuous-clause-ends : goal.returns-in-Err-NotContinuous-clause-ends
returns-in-Err-NotContinuous-clause-ends g c =
    let names = names_of c.args.words.now in
    let before = g.F.Files.moment c.args.files.now in
    let line = c.in-Err-NotContinuous.line in
    record {
      says = (
        inr (said_read (λ t. TextIsNotTaken names.options t line.items) INPUT_LIMIT (before.told names.input) c.in-Ok.text.items _ c.in-Ok.ensures.bytes c.in-Ok.ensures.most refl
            (not_taken_said c.args.words.now.options c.in-Ok.text.items c.in-Err-NotContinuous.field-0 line c.in-Err-NotContinuous.field-0-is c.in-Err-NotContinuous.ensures.reduced)),
        c.read.ensures.kept,
      );
      read = λ a b. finds_there INPUT_LIMIT names.input before before (Some c.in-Ok.text.items) (c.in-Ok.ensures.bytes, c.in-Ok.ensures.most);
    }
