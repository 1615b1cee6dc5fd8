use Rattle.std.proofs.Common.{refl}
use Rattle.mps_round_trip.proofs.Widths.{widths_fit}
use Rattle.presolve_command.proofs.Made.{concluded_of, concluded_with, infeasible_of, unbounded_of}
use Rattle.presolve_command.proofs.PlainKept.{comes_back, reads_back}
use Rattle.presolve_report.specs.Outcomes.{Outcome}
use Rattle.presolve_command.proofs.reduce.reduce_program.Goals as goal

pub returns-in_ok-texts-in-Ok-Reduced : goal.returns-in_ok-texts-in-Ok-Reduced
returns-in_ok-texts-in-Ok-Reduced g c =
    let made = c.in-Ok-Reduced.made in
    let concluded = concluded_of c.args.options.now c.args.workers.now c.args.program c.in-Ok-Reduced.field-0 made c.in-Ok-Reduced.field-0-is c.in-Ok-Reduced.ensures in
    let outcome : Outcome = record { source = c.args.program; program = made.program; records = made.records; report = c.report_for-report.result } in
    let told = concluded_with c.args.options.now c.args.workers.now c.args.program made c.report_for-report.result.end c.report_for-report.ensures.end concluded in
    let counted = c.size_of-before.ensures in
    let texts = c.in_ok-texts-in-Ok-Reduced.ensures c.args.program (c.report_for-report.ensures.told c.args.program counted.rows counted.columns counted.entries) in (
      outcome,
      refl,
      record {
        taken = c.requires.taken;
        concluded = told;
        pairs = λ dual. concluded.pairs (c.requires.taken dual);
        range = c.records_have_range.ensures;
        texts = texts;
        reads_back = reads_back c.args.options.now.numbers outcome _ concluded.names concluded.named concluded.writable concluded.ascends texts.program_text;
        comes_back = comes_back c.args.options.now c.args.workers.now outcome _ _ _ c.texts_come_back.ensures told texts c.records_have_range.ensures;
      },
    )

pub texts_of-requires : goal.texts_of-requires
texts_of-requires g c =
    let concluded = concluded_of c.args.options.now c.args.workers.now c.args.program c.in-Ok-Reduced.field-0 c.in-Ok-Reduced.made c.in-Ok-Reduced.field-0-is c.in-Ok-Reduced.ensures in
    widths_fit c.args.options.now.numbers c.in-Ok-Reduced.made.program concluded.writable

pub returns-in-Ok-Infeasible : goal.returns-in-Ok-Infeasible
returns-in-Ok-Infeasible g c = infeasible_of c.args.options.now c.args.workers.now c.args.program c.in-Ok-Infeasible.field-0 c.in-Ok-Infeasible.decided c.in-Ok-Infeasible.field-0-is c.requires.taken c.in-Ok-Infeasible.ensures

pub returns-in-Ok-UnboundedOrInfeasible : goal.returns-in-Ok-UnboundedOrInfeasible
returns-in-Ok-UnboundedOrInfeasible g c =
    unbounded_of c.args.options.now c.args.workers.now c.args.program c.in-Ok-UnboundedOrInfeasible.field-0 c.in-Ok-UnboundedOrInfeasible._decided c.in-Ok-UnboundedOrInfeasible.field-0-is c.requires.taken c.in-Ok-UnboundedOrInfeasible.ensures
