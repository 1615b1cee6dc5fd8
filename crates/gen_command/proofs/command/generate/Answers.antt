use Rattle.std.proofs.Common.{inl, refl, sym, subst}
use Rattle.fractions.specs.declared.Numbers.TheVariants.{Decimal}
use Rattle.lp_model.specs.Meaning.{meaning}
use Rattle.lp_model.specs.ProgramData.{ProgramData}
use Rattle.lp_model.specs.Verdicts.{NoPoint, NoPointOrEndless}
use Rattle.presolve_model.specs.Conclusions.{Concluded}
use Rattle.presolve_model.specs.Workers.{one_worker}
use Rattle.presolve_model.specs.declared.conclusion.End.{End}
use Rattle.presolve_report.specs.Outcomes.{Outcome}
use Rattle.gen_command.specs.Generating.{default_options}
use Rattle.gen_command.proofs.command.generate.Goals as goal

pub reduced-requires-clause-writable : goal.reduced-requires-clause-writable
reduced-requires-clause-writable g c κs within = c.in_ok-program.ensures.writable Decimal

pub reduced-requires-clause-there : goal.reduced-requires-clause-there
reduced-requires-clause-there g c κs within =
    let numbers = c.args.numbers in
    subst (λ (p : ProgramData). NoPoint (meaning p) → ⊥) (sym c.in_ok-program.ensures.program) (c.generated_programs_have_points.ensures.there numbers.seed numbers.rows numbers.columns)

pub reduced-requires-clause-undecided : goal.reduced-requires-clause-undecided
reduced-requires-clause-undecided g c κs within =
    let numbers = c.args.numbers in
    subst (λ (p : ProgramData). NoPointOrEndless p.sense (meaning p) → ⊥) (sym c.in_ok-program.ensures.program) (c.generated_programs_have_points.ensures.undecided numbers.seed numbers.rows numbers.columns)

pub returns : goal.returns
returns g c =
    let program = c.in_ok-program.program in
    let made = c.in_ok-made.made in
    let report = c.report_for-report.result in
    let size = c.size_of-size.ensures in
    let outcome : Outcome = record { source = program; program = made.program; records = made.records; report = report } in
    let concluded = subst (λ (x : End). Concluded default_options one_worker program made.program made.records x) (sym c.report_for-report.ensures.end) c.in_ok-made.ensures in
    record {
      outcome = outcome;
      source = c.in_ok-program.ensures.program;
      concluded = concluded;
      in_order = concluded.ordered (inl refl);
      tells = c.report_for-report.ensures.told program size.rows size.columns size.entries;
      text = c.in_ok-text.ensures program size.rows size.columns size.entries;
    }
