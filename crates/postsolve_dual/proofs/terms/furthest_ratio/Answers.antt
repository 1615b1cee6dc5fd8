use Rattle.std.proofs.Common.{length, refl, subst}
use Rattle.std.proofs.lemmas.Result.{err_from_is_err_and}
use Rattle.lp_model.specs.Vectors.{vector_of}
use Rattle.postsolve_dual.proofs.Ratios.{ratios_none, ratios_more, ratios_stop, ratios_all, term_here}
use Rattle.postsolve_dual.proofs.terms.furthest_ratio.Goals as goal

pub loop-entry-init : goal.loop-entry-init
loop-entry-init g c = ratios_none g.T.Exact.room c.args.side (length c.args.numbers.now) c.args.entries.now (vector_of c.args.numbers.now) _ c.zero-best.ensures.value c.requires

pub at-requires : goal.at-requires
at-requires g c = (term_here g.T.Exact.room _ _ _ _ _ _ _ _ c.in-Some.ensures.cases.0 c.loop-entry.invariant).1

pub over-requires : goal.over-requires
over-requires g c = (term_here g.T.Exact.room _ _ _ _ _ _ _ _ c.in-Some.ensures.cases.0 c.loop-entry.invariant).2

pub loop-entry-preserved : goal.loop-entry-preserved
loop-entry-preserved g c = ratios_more g.T.Exact.room _ _ _ _ _ _ (vector_of c.args.numbers.now) _ _ _ _ c.in-Some.ensures.cases.0 c.at.ensures c.in_ok-ratio.ensures.value c.further-best.ensures (c.in_ok-ratio.ensures.fits refl) c.loop-entry.invariant

pub returns-in_err-ratio-clause-past : goal.returns-in_err-ratio-clause-past
returns-in_err-ratio-clause-past g c =
    let p = err_from_is_err_and c.from_residual.result c.from_residual.ensures.1 in
    rw p.1 (λ past f. ratios_stop g.T.Exact.room _ _ _ _ _ _ (vector_of c.args.numbers.now) _ _ c.in-Some.ensures.cases.0 c.at.ensures
    (c.in_err-ratio.ensures.past (subst (λ why. g.T.Exact.is_past why) p.2 past)) c.loop-entry.invariant f)

pub returns-clause-value : goal.returns-clause-value
returns-clause-value g c = (ratios_all g.T.Exact.room _ _ _ _ _ _ c.in_default.ensures.cases c.loop-entry.invariant).0

pub returns-clause-fits : goal.returns-clause-fits
returns-clause-fits g c = (λ _. (ratios_all g.T.Exact.room _ _ _ _ _ _ c.in_default.ensures.cases c.loop-entry.invariant).1)
