use Rattle.std.proofs.Common.{List, sym, subst}
use Rattle.lp_model.specs.declared.terms.Term.{Term}
use Rattle.sparse_problem.specs.KeptRows.{AreKeptBut}
use Rattle.sparse_problem.proofs.Mending.{after_is, all_forgotten, forgotten, none_left}
use Rattle.sparse_problem.proofs.kept_rows.forget_rows.Goals as goal

pub loop-rest-preserved : goal.loop-rest-preserved
loop-rest-preserved c q h = subst (AreKeptBut q _) (sym c.put.ensures)
    (forgotten q c.term-item.result _ c.loop-rest.kept.items
    (subst (λ (ts : List Term). AreKeptBut q ts c.loop-rest.kept.items) (sym (after_is c.term-item.result c.loop-rest.rest.now c.in-len1-up.len_at_least c.term-item.is)) (c.loop-rest.invariant q h)))

pub returns : goal.returns
returns c q h = all_forgotten q c.loop-rest.kept.items (subst (λ (ts : List Term). AreKeptBut q ts c.loop-rest.kept.items) (none_left c.loop-rest.rest.now c.in_default.len_below) (c.loop-rest.invariant q h))
