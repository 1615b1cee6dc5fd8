use Rattle.std.proofs.Common.{true, false, sym, ◌∙◌}
use Rattle.std.proofs.lemmas.Result.{err_from_is_err_and}
use Rattle.postsolve_command.specs.Given.{records_refusal}
use Rattle.postsolve_command.specs.Postsolved.{AreMatched}
use Rattle.postsolve_command.proofs.Brought.{brought_by_width, handed_on, match_refused, program_given, records_given, records_refused}
use Rattle.postsolve_command.proofs.command.bring_back.Goals as goal

pub returns-in_err-records : goal.returns-in_err-records
returns-in_err-records c = λ names before now width found.
    let handed = err_from_is_err_and c.from_residual-in_err-records.result c.from_residual-in_err-records.ensures.1 in
    let program = program_given names before now _ c.in_ok-program.program found.program c.in_ok-program.ensures.program in
    handed_on names before now c.from_residual-in_err-records.result handed.0 (records_refusal c.in_err-records.field-0.0) handed.1 handed.2
    (records_refused names before now _ c.in_ok-program.program c.in_err-records.field-0.0 found.records program c.in_err-records.ensures)

pub returns-in_err-see_match : goal.returns-in_err-see_match
returns-in_err-see_match c = λ names before now width found.
    let handed = err_from_is_err_and c.from_residual-in_err-see_match.result c.from_residual-in_err-see_match.ensures.1 in
    let program = program_given names before now _ c.in_ok-program.program found.program c.in_ok-program.ensures.program in
    let records = records_given names before now _ c.in_ok-records.records found.records c.in_ok-records.ensures in
    handed_on names before now c.from_residual-in_err-see_match.result handed.0 c.in_err-see_match.field-0.0 handed.1 handed.2
    (match_refused names before now c.in_ok-program.program c.in_ok-records.records c.in_err-see_match.field-0.0 program records c.in_err-see_match.ensures)

pub returns-then-wide : goal.returns-then-wide
returns-then-wide c = λ names before now width found.
    let program = program_given names before now _ c.in_ok-program.program found.program c.in_ok-program.ensures.program in
    let records = records_given names before now _ c.in_ok-records.records found.records c.in_ok-records.ensures in
    let matched : AreMatched names before c.in_ok-program.program c.in_ok-records.records = record { program_text = program; records_text = records; matched = c.in_ok-see_match.ensures } in
    brought_by_width names before now c.in_ok-program.program c.in_ok-records.records _ found.solution matched true (sym c.if-wide.true ∙ width) c.brought_by.result c.brought_by.ensures

pub returns : goal.returns
returns c = λ names before now width found.
    let program = program_given names before now _ c.in_ok-program.program found.program c.in_ok-program.ensures.program in
    let records = records_given names before now _ c.in_ok-records.records found.records c.in_ok-records.ensures in
    let matched : AreMatched names before c.in_ok-program.program c.in_ok-records.records = record { program_text = program; records_text = records; matched = c.in_ok-see_match.ensures } in
    brought_by_width names before now c.in_ok-program.program c.in_ok-records.records _ found.solution matched false (sym c.if-wide.false ∙ width) c.brought_by-else-wide.result c.brought_by-else-wide.ensures
