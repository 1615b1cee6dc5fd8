use Rattle.std.proofs.Common.{◌≡◌, ◌++◌, ◌∙◌, List, map, ap, sym, subst}
use Rattle.presolve_model.specs.declared.instance.Instance.TheVariants as at
use Rattle.run_report.specs.declared.counts.RuleCount.{RuleCount}
use Rattle.run_report.specs.Counts.{AddsUp, applied_in, closing, left_in, refused_in}
use Rattle.run_report.proofs.Counting.{adds_up, counted}
use Rattle.run_report.proofs.counts.count_up.Goals as goal

pub returns-clause-counts : goal.returns-clause-counts
returns-clause-counts c =
    let history : c.as_slice.result.now ≡ c.args.run.book.history = c.as_slice.ensures.value ∙ c.close-ended.ensures.history in
    let applied : c.as_slice-4.result.now ≡ applied_in c.args.run.book = c.as_slice-4.ensures.value ∙ c.in_ok-applied.ensures ∙ (λ t. map at.Reduction (history t) ++ closing (c.close-ended.ensures.verdict t)) in
    counted c.args.run.book c.args.run.held.items _ _ _ _ c.in_ok-counts.counts.items c.in_ok-counts.ensures applied (c.as_slice-5.ensures.value ∙ c.in_ok-refused.ensures ∙ ap refused_in c.as_slice-2.ensures.value)
    (c.as_slice-6.ensures.value ∙ c.in_ok-left.ensures ∙ ap left_in c.as_slice-3.ensures.value) (c.as_slice-7.ensures.value ∙ c.in_ok-rules.ensures)

pub returns-clause-adds_up : goal.returns-clause-adds_up
returns-clause-adds_up c =
    subst (λ (cs : List RuleCount). AddsUp c.args.run.book c.args.run.end cs) (sym (returns-clause-counts c)) (adds_up c.args.run.book c.args.run.end c.args.run.held.items c.stands.ensures.stands c.requires.end c.requires.held)
