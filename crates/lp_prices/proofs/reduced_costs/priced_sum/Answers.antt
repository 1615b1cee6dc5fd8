use Rattle.std.proofs.Common.{length, map, refl, subst}
use Rattle.std.proofs.lemmas.Result.{err_from_is_err_and}
use Rattle.lp_model.specs.Vectors.{vector_of}
use Rattle.lp_prices.proofs.Pricing.{price_at, pricing_none, pricing_more, pricing_past, pricing_all}
use Rattle.lp_prices.proofs.reduced_costs.priced_sum.Goals as goal

pub loop-entry-init : goal.loop-entry-init
loop-entry-init g c = pricing_none g.T.Exact.room g.met.T.Exact.adds_nothing (length c.args.duals.now) (vector_of (map g.T.Exact.number c.args.duals.now)) c.args.entries.now _ c.zero-sum.ensures.value c.requires

pub loop-entry-preserved : goal.loop-entry-preserved
loop-entry-preserved g c = pricing_more g.T.Exact.room g.met.T.Exact.adds_nothing _ _ _ _ _ _ _ _ _ c.in-Some.ensures.cases.0
    (price_at g.T.Exact.number g.T.Exact.room c.args.duals.now _ _ _ _ _ _ c.in-Some.ensures.cases.0 c.index-duals-entry.is c.loop-entry.invariant)
    c.in_ok-sum.ensures.value c.in_ok-sum.ensures.kept (c.in_ok-sum.ensures.fits refl) c.loop-entry.invariant

pub returns-in_err-sum-clause-past : goal.returns-in_err-sum-clause-past
returns-in_err-sum-clause-past g c =
    let p = err_from_is_err_and c.from_residual.result c.from_residual.ensures.1 in
    rw p.1 (λ past all. pricing_past g.T.Exact.room g.met.T.Exact.adds_nothing _ _ _ _ _ _ _ _ c.in-Some.ensures.cases.0
    (price_at g.T.Exact.number g.T.Exact.room c.args.duals.now _ _ _ _ _ _ c.in-Some.ensures.cases.0 c.index-duals-entry.is c.loop-entry.invariant)
    (c.in_err-sum.ensures.past (subst (λ why. g.T.Exact.is_past why) p.2 past)) c.loop-entry.invariant all)

pub returns-clause-value : goal.returns-clause-value
returns-clause-value g c = (pricing_all g.T.Exact.room g.met.T.Exact.adds_nothing _ _ _ _ _ c.in_default.ensures.cases c.loop-entry.invariant).0

pub returns-clause-fits : goal.returns-clause-fits
returns-clause-fits g c = (λ _. (pricing_all g.T.Exact.room g.met.T.Exact.adds_nothing _ _ _ _ _ c.in_default.ensures.cases c.loop-entry.invariant).1)
