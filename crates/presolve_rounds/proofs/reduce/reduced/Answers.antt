use Rattle.std.proofs.Common.{◌≡◌, sym, ◌∙◌, subst}
use Rattle.lp_model.specs.Names.{WellNamed}
use Rattle.lp_model.specs.ProgramData.{ProgramData}
use Rattle.problem_model.specs.Programs.{written_program}
use Rattle.presolve_model.specs.Conclusions.{Concluded, HaveNames}
use Rattle.presolve_model.specs.Ordered.{options_of}
use Rattle.presolve_rounds.proofs.Concluding.{concluded}
use Rattle.presolve_rounds.proofs.Sources.{named_given, written_kept}
use Rattle.presolve_rounds.proofs.reduce.reduced.Goals as goal

pub returns : goal.returns
returns c =
    let program : ProgramData = c.args.source.given in
    let records = c.in_ok-problem.field-0.records in
    let written : c.in_ok-program.program ≡ written_program program c.args.book.problem =
    c.in_ok-program.ensures ∙ (λ t. written_program ((c.into_kept.ensures ∙ c.requires.kept) t) (c.in_ok-problem.ensures.problem t)) ∙ written_kept program c.args.book.problem in
    let named : HaveNames program (written_program program c.args.book.problem) records = record {
      given = named_given program.objective program.rows program.columns (subst (λ (p : ProgramData). WellNamed p.objective p.rows p.columns) (c.kept.ensures ∙ c.requires.kept) c.objective-name.ensures.named);
      left = subst (λ (p : ProgramData). WellNamed p.objective p.rows p.columns) written c.objective-left.ensures.named;
      records = c.is_named.ensures;
    } in
    subst (λ (p : ProgramData). Concluded (options_of c.args.dual c.args.book) c.args.workers.now program p records c.args.end)
    (sym written)
    (concluded c.args.dual c.args.workers.now program c.args.book records c.args.end c.requires.ascends c.requires.writable c.requires.start c.stands.ensures.stands c.requires.end c.in_ok-problem.ensures.told c.requires.few named c.requires.runs)
