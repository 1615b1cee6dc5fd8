use Rattle.std.proofs.Common.{length, refl, subst}
use Rattle.std.proofs.lemmas.Result.{err_from_is_err_and}
use Rattle.lp_model.specs.Vectors.{vector_of}
use Rattle.postsolve_dual.proofs.Takings.{taking_none, taking_id, taking_more, taking_stops, taking_all}
use Rattle.postsolve_dual.proofs.terms.take_terms.Goals as goal

pub loop-entry-init : goal.loop-entry-init
loop-entry-init g c = taking_none g.T.Exact.room (length c.args.numbers.now) c.args.entries.now _ (vector_of c.args.numbers.now) c.requires

pub at-requires : goal.at-requires
at-requires g c = taking_id g.T.Exact.room _ _ _ _ _ _ _ _ _ c.in-Some.ensures.cases.0 c.loop-entry.invariant

pub set-requires : goal.set-requires
set-requires g c = taking_id g.T.Exact.room _ _ _ _ _ _ _ _ _ c.in-Some.ensures.cases.0 c.loop-entry.invariant

pub loop-entry-preserved : goal.loop-entry-preserved
loop-entry-preserved g c = taking_more g.T.Exact.room _ _ _ _ _ _ _ _ _ _ _ (vector_of c.loop-entry.numbers) _ c.in-Some.ensures.cases.0 c.set.ensures.size c.at.ensures c.in_ok-left.ensures.value c.set.ensures.value (c.in_ok-left.ensures.fits refl) c.loop-entry.invariant

pub returns-in_err-left-clause-past : goal.returns-in_err-left-clause-past
returns-in_err-left-clause-past g c =
    let p = err_from_is_err_and c.from_residual.result c.from_residual.ensures.1 in
    rw p.1 (λ past f. taking_stops g.T.Exact.room _ _ _ _ _ _ _ _ _ (vector_of c.loop-entry.numbers) c.in-Some.ensures.cases.0 c.at.ensures
    (c.in_err-left.ensures.past (subst (λ why. g.T.Exact.is_past why) p.2 past)) c.loop-entry.invariant f)

pub returns-clause-taken : goal.returns-clause-taken
returns-clause-taken g c = (taking_all g.T.Exact.room _ _ _ _ _ _ _ c.in_default.ensures.cases c.loop-entry.invariant).0

pub returns-clause-fits : goal.returns-clause-fits
returns-clause-fits g c = (λ _. (taking_all g.T.Exact.room _ _ _ _ _ _ _ c.in_default.ensures.cases c.loop-entry.invariant).1)
