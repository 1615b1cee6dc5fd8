use Rattle.std.proofs.Common.{List, sym, ◌∙◌, subst}
use Rattle.presolve_model.specs.declared.instance.Reduction.{Reduction}
use Rattle.presolve_model.specs.Conclusions.{Decided}
use Rattle.run_laws.proofs.Telling.{decided}
use Rattle.presolve_model.specs.Ordered.{options_of}
use Rattle.presolve_rounds.proofs.reduce.decided.Goals as goal

pub returns : goal.returns
returns c =
    subst (λ (rs : List Reduction). Decided (options_of c.args.dual c.args.book) c.args.workers.now c.args.source.now.given rs c.in-Some.verdict) (sym c.close-ended.ensures.history)
    (decided c.args.dual c.args.workers.now c.args.source.now.given c.args.book c.in-Some.verdict c.requires.start c.stands.ensures.stands (sym c.close-ended.ensures.verdict ∙ c.in-Some.is) c.requires.runs)
