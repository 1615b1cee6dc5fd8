use Rattle.std.proofs.Common.{◌∙◌, List, ap, sym, subst, ◌<◌, arith}
use Rattle.lp_model.specs.declared.terms.Term.{Term}
use Rattle.lp_model.specs.Sparse.{Ascends, dense}
use Rattle.aggregation_rules.proofs.Walk.{after_is, step_same, step_ascends}
use Rattle.aggregation_rules.proofs.new_entries.from_id.Goals as goal

pub loop-rest-preserved : goal.loop-rest-preserved
loop-rest-preserved c =
    let t : Term = c.term-item.result in
    let e = after_is t c.loop-rest.rest.now c.in-len1-up.len_at_least c.term-item.is in
    let l : t.id < c.args.id = omega (arith, c.if-term-id.false) in (
      step_same c.args.id t _ c.args.terms.now l (λ m g. ap (λ (ts : List Term). dense ts m) (sym e) ∙ c.loop-rest.invariant.0 m g),
      step_ascends t _ c.args.terms.now (λ n a. subst (Ascends 0 n) e (c.loop-rest.invariant.1 n a)),
    )
