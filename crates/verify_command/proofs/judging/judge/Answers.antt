use Rattle.std.proofs.lemmas.Result.{err_from_is_err_and}
use Rattle.verify_command.specs.Given.{records_refusal}
use Rattle.verify_command.proofs.Judged.{handed_on, input_given, input_refused, output_given, output_refused, records_refused, records_said}
use Rattle.record_texts.proofs.Found.{records_told}
use Rattle.verify_command.proofs.judging.judge.Goals as goal

pub returns-in_err-program : goal.returns-in_err-program
returns-in_err-program c = λ names before now is found.
    let handed = err_from_is_err_and c.from_residual.result c.from_residual.ensures.1 in
    handed_on names before now c.from_residual.result handed.0 c.in_err-program.field-0.0 handed.1 handed.2
    (input_refused names before now c.args.form _ c.in_err-program.field-0.0 is found.input c.in_err-program.ensures.program)

pub returns-in_err-reduced : goal.returns-in_err-reduced
returns-in_err-reduced c = λ names before now is found.
    let handed = err_from_is_err_and c.from_residual-in_err-reduced.result c.from_residual-in_err-reduced.ensures.1 in
    let input = input_given names before now c.args.form _ c.in_ok-program.program is found.input c.in_ok-program.ensures.program in
    handed_on names before now c.from_residual-in_err-reduced.result handed.0 c.in_err-reduced.field-0.0 handed.1 handed.2
    (output_refused names before now c.fractions_form.result _ c.in_ok-program.program c.in_err-reduced.field-0.0 c.fractions_form.ensures found.output input c.in_err-reduced.ensures.program)

pub returns-in_err-records : goal.returns-in_err-records
returns-in_err-records c = λ names before now is found.
    let handed = err_from_is_err_and c.from_residual-in_err-records.result c.from_residual-in_err-records.ensures.1 in
    let input = input_given names before now c.args.form _ c.in_ok-program.program is found.input c.in_ok-program.ensures.program in
    let output = output_given names before now c.fractions_form.result _ c.in_ok-reduced.reduced c.fractions_form.ensures found.output c.in_ok-reduced.ensures.program in
    handed_on names before now c.from_residual-in_err-records.result handed.0 (records_refusal c.in_err-records.field-0.0) handed.1 handed.2
    (records_refused names before now _ c.in_ok-program.program c.in_ok-reduced.reduced c.in_err-records.field-0.0 found.records input output c.in_err-records.ensures)

pub returns : goal.returns
returns c = λ names before now is found.
    let program = c.in_ok-program.program in
    let reduced = c.in_ok-reduced.reduced in
    let told = c.in_ok-records.records in
    records_said names before program reduced told c.in_ok-said.said c.in_ok-ending.ending
    (record {
      input = input_given names before now c.args.form _ program is found.input c.in_ok-program.ensures.program;
      output = output_given names before now c.fractions_form.result _ reduced c.fractions_form.ensures found.output c.in_ok-reduced.ensures.program;
      records = records_told names.records before now _ told found.records c.in_ok-records.ensures;
    })
    c.in_ok-program.ensures.ascends (record { sound = c.is_sound.ensures; named = c.is_named.ensures; told = c.is_told.ensures }) c.in_ok-said.ensures c.in_ok-ending.ensures
